-- The row of a rule, from the rows of its parts. Assumes nothing.
use Rattle.std.proofs.Common.{◌≡◌, ℕ, zero, suc, ◌-◌, ◌<◌, ◌≤◌, Bool, List, Result, not, length, sym, refl, ap, ◌∙◌, subst, ap₂, arith}
use Rattle.rule.specs.declared.leaf.Kind.{Kind}
use Rattle.rule.specs.declared.leaf.Kind.TheVariants.{SomeStrong, SomeWeak, EveryStrong, EveryWeak}
use Rattle.rule.specs.declared.leaf.Test.{Test}
use Rattle.rule.specs.Tree.{Segment, Rule, letter, negated, both, any, next, until, release}
use Rattle.scale.specs.Laws.{Algebra}
use Rattle.evaluator.specs.declared.next.Next.{Next}
use Rattle.semantics.specs.Marks.{Marks}
use Rattle.evaluator.specs.Parts.{some_part, every_part, next_part}
use Rattle.semantics.specs.Positions.{matches, open_at, some_match, every_match, ended, next_of, worth}
use Rattle.evaluator.specs.Segments.{next_is, Tabled, Turning}
use Rattle.evaluator.specs.Tables.{entry, Rowed}
use Rattle.semantics.proofs.Bounds.{join_over_same, meet_over_same, unrolled}
use Rattle.evaluator.proofs.Loops.{join_more, meet_more}
use Rattle.evaluator.proofs.Parts.{Same, next_part_same}
use Rattle.std.specs.Prelude.{IfOk}
use Rattle.std.proofs.lemmas.Result.{IfOk-weaker}
use Rattle.std.proofs.lemmas.Bool.{eq-eqb, ne_eqb, cond-true, cond-false}

pub ap₃ : {X Y Z W : Type 0} {x x' : X} {y y' : Y} {z z' : Z} (f : X → Y → Z → W) → x ≡ x' → y ≡ y' → z ≡ z' → f x y z ≡ f x' y' z'
ap₃ f p q r = λ i. f (p i) (q i) (r i)

module _ {S : Type 0} (A : Algebra S) where
  rowed_same : (n k : ℕ) (o o' : ℕ → S) (row : List S) → k ≡ n → Same n o o' → Rowed A k o row → Rowed A n o' row
  rowed_same n k o o' row e h r = record { sized = r.sized ∙ e; reads = λ i l. r.reads i (omega arith) ∙ h i l }

  module _ (value : Test → ℕ → S) (n : ℕ) where
    module _ (a : Segment) (after : ℕ → S) (mark : S) (i : ℕ) (l : i < n) where
      at_end : ended A value n after mark n ≡ mark
      at_end = cond-true _ _ _ (eq-eqb n n refl)

      inside : (j : ℕ) → j < n → after j ≡ ended A value n after mark j
      inside j h = sym (cond-false _ _ _ (ne_eqb j n (λ e. omega arith)))

      some_is : some_part A n (matches A value a) (open_at A value n a) after mark i ≡ some_match A value n a (ended A value n after mark) mark i
      some_is = ap (λ x. A.join x (A.meet (open_at A value n a i) mark))
          (ap₂ A.join (join_over_same A (suc i) n _ _ (λ j low high. ap (A.meet (matches A value a i j)) (inside j high))) (ap (A.meet (matches A value a i n)) (sym at_end))
          ∙ sym (join_more A (λ j. A.meet (matches A value a i j) (ended A value n after mark j)) (suc i) n (suc n) l (omega arith)))

      every_is : every_part A n (matches A value a) (open_at A value n a) after mark i ≡ every_match A value n a (ended A value n after mark) mark i
      every_is = ap (λ x. A.meet x (A.join (A.opposite (open_at A value n a i)) mark))
          (ap₂ A.meet (meet_over_same A (suc i) n _ _ (λ j low high. ap (A.join (A.opposite (matches A value a i j))) (inside j high))) (ap (A.join (A.opposite (matches A value a i n))) (sym at_end))
          ∙ sym (meet_more A (λ j. A.join (A.opposite (matches A value a i j)) (ended A value n after mark j)) (suc i) n (suc n) l (omega arith)))

      next_of_is : (kind : Kind) → next_part A kind n (matches A value a) (open_at A value n a) after mark i ≡ next_of A value n kind a after mark i
      next_of_is SomeStrong = some_is
      next_of_is SomeWeak = some_is
      next_of_is EveryStrong = every_is
      next_of_is EveryWeak = every_is

    module _ (marks : Marks S) (odd : Bool) where
      -- what a rule is worth
      abbrev V : Bool → Rule → ℕ → S
      V o r = worth A value n marks o r

      letter_rule : (t : Test) (row : List S) (k : ℕ) → k ≡ n → Rowed A k (value t) row → Rowed A n (V odd (letter t)) row
      unfolding worth
      letter_rule t row k e h = rowed_same n k _ _ row e (λ i l. refl) h

      negated_rule : (r : Rule) (sub row : List S) → Rowed A n (V (not odd) r) sub → Rowed A (length sub) (λ i. A.opposite (entry A sub i)) row → Rowed A n (V odd (negated r)) row
      unfolding worth
      negated_rule r sub row h x = rowed_same n (length sub) _ _ row h.sized (λ i l. ap A.opposite (h.reads i l)) x

      module _ (r s : Rule) (first second row : List S) (f : Rowed A n (V odd r) first) (g : Rowed A n (V odd s) second) where
        both_rule : Rowed A (length first) (λ i. A.meet (entry A first i) (entry A second i)) row → Rowed A n (V odd (both r s)) row
        unfolding worth
        both_rule x = rowed_same n (length first) _ _ row f.sized (λ i l. ap₂ A.meet (f.reads i l) (g.reads i l)) x

        any_rule : Rowed A (length first) (λ i. A.join (entry A first i) (entry A second i)) row → Rowed A n (V odd (any r s)) row
        unfolding worth
        any_rule x = rowed_same n (length first) _ _ row f.sized (λ i l. ap₂ A.join (f.reads i l) (g.reads i l)) x

      module _ (kind : Kind) (a : Segment) (step : Next S) (kinded : step.kind ≡ kind) (tabled : Tabled A n (matches A value a) (open_at A value n a) step.table) (marked : step.mark ≡ marks odd kind) where
        -- the next over the table is the next over the segment, if what comes after has the same values
        next_same : (f g : ℕ → S) (i : ℕ) → i < n → ((j : ℕ) → suc i ≤ j → j < n → f j ≡ g j) → next_is A step n f i ≡ next_of A value n kind a g (marks odd kind) i
        next_same f g i l h =
            next_part_same A n _ _ _ _ f g step.mark i l (λ j low high. tabled.matching.reads i j (omega arith) high) (tabled.opening.reads i (omega arith)) h step.kind
            ∙ next_of_is a g step.mark i l step.kind ∙ ap₂ (λ k x. next_of A value n k a g x i) kinded marked

        next_rule : (r : Rule) (after row : List S) → Rowed A n (V odd r) after → Rowed A (length after) (next_is A step (length after) (entry A after)) row → Rowed A n (V odd (next kind a r)) row
        unfolding worth
        next_rule r after row h x = rowed_same n (length after) _ _ row h.sized (λ i l.
            ap (λ s. next_is A step s (entry A after) i) h.sized ∙ next_same (entry A after) (V odd r) i l (λ j low high. h.reads j high)) x

        module _ (r s : Rule) (hold goal row : List S) (f : Rowed A n (V odd r) hold) (g : Rowed A n (V odd s) goal) where
          -- two rows of values that are turned in the same way are equal
          turn_unique : (t : S → S → S → S) (w : ℕ → S) → ((i : ℕ) → i < n → w i ≡ t (V odd s i) (V odd r i) (next_of A value n kind a w (marks odd kind) i))
              → Turning A t step n hold goal row → (b i : ℕ) → n - i ≤ b → i < n → entry A row i ≡ w i
          turn_unique t w e x zero i h l = absurd (omega arith)
          turn_unique t w e x (suc b) i h l =
              x.turns i l ∙ ap₃ t (g.reads i l) (f.reads i l) (next_same (entry A row) w i l (λ j low high. turn_unique t w e x b j (omega arith) high)) ∙ sym (e i l)

          turn_rule : (t : S → S → S → S) (w : ℕ → S) → ((i : ℕ) → i < n → w i ≡ t (V odd s i) (V odd r i) (next_of A value n kind a w (marks odd kind) i))
              → Turning A t step (length hold) hold goal row → Rowed A n w row
          turn_rule t w e x =
              let x' : Turning A t step n hold goal row = subst (λ m. Turning A t step m hold goal row) f.sized x in
              record { sized = x'.sized; reads = λ i l. turn_unique t w e x' (n - i) i (omega arith) l }

          until_rule : Turning A (λ g h x. A.join g (A.meet h x)) step (length hold) hold goal row → Rowed A n (V odd (until kind r a s)) row
          until_rule x = turn_rule _ (V odd (until kind r a s)) (λ i l. (unrolled A value n marks odd kind r a s i l).until_is) x

          release_rule : Turning A (λ g h x. A.meet g (A.join h x)) step (length hold) hold goal row → Rowed A n (V odd (release kind r a s)) row
          release_rule x = turn_rule _ (V odd (release kind r a s)) (λ i l. (unrolled A value n marks odd kind r a s i l).release_is) x

      -- the same of a result with a row's items, for a rule that is the whole of these parts
      module _ {T E : Type 0} (result : Result T E) (items : T → List S) (whole : Rule) where
        made : (P : List S → Type 0) (r : Rule) → whole ≡ r → ((row : List S) → P row → Rowed A n (V odd r) row) → IfOk result (λ row. P (items row)) → IfOk result (λ row. Rowed A n (V odd whole) (items row))
        made P r is h x = IfOk-weaker result _ _ (λ row y. subst (λ w. Rowed A n (V odd w) (items row)) (sym is) (h (items row) y)) x

        at : (xs ys : List S) (o : ℕ → S) → xs ≡ ys → Rowed A n o ys → Rowed A n o xs
        at xs ys o e h = subst (Rowed A n o) (sym e) h

        pub letter_whole : (t : Test) (k : ℕ) → k ≡ n → whole ≡ letter t → IfOk result (λ row. Rowed A k (value t) (items row)) → IfOk result (λ row. Rowed A n (V odd whole) (items row))
        letter_whole t k e is x = made _ (letter t) is (λ row y. letter_rule t row k e y) x

        pub negated_whole : (r : Rule) (sub xs : List S) → xs ≡ sub → Rowed A n (V (not odd) r) sub → whole ≡ negated r
            → IfOk result (λ row. Rowed A (length xs) (λ i. A.opposite (entry A xs i)) (items row)) → IfOk result (λ row. Rowed A n (V odd whole) (items row))
        negated_whole r sub xs same h is x = made _ (negated r) is (λ row y. negated_rule r xs row (at xs sub _ same h) y) x

        module _ (r s : Rule) (first second xs ys : List S) (same : xs ≡ first) (same' : ys ≡ second) (f : Rowed A n (V odd r) first) (g : Rowed A n (V odd s) second) where
          pub both_whole : whole ≡ both r s → IfOk result (λ row. Rowed A (length xs) (λ i. A.meet (entry A xs i) (entry A ys i)) (items row)) → IfOk result (λ row. Rowed A n (V odd whole) (items row))
          both_whole is x = made _ (both r s) is (λ row y. both_rule r s xs ys row (at xs first _ same f) (at ys second _ same' g) y) x

          pub any_whole : whole ≡ any r s → IfOk result (λ row. Rowed A (length xs) (λ i. A.join (entry A xs i) (entry A ys i)) (items row)) → IfOk result (λ row. Rowed A n (V odd whole) (items row))
          any_whole is x = made _ (any r s) is (λ row y. any_rule r s xs ys row (at xs first _ same f) (at ys second _ same' g) y) x

        module _ (kind : Kind) (a : Segment) (step : Next S) (kinded : step.kind ≡ kind) (tabled : Tabled A n (matches A value a) (open_at A value n a) step.table) (marked : step.mark ≡ marks odd kind) where
          pub next_whole : (r : Rule) (after xs : List S) → xs ≡ after → Rowed A n (V odd r) after → whole ≡ next kind a r
              → IfOk result (λ row. Rowed A (length xs) (next_is A step (length xs) (entry A xs)) (items row)) → IfOk result (λ row. Rowed A n (V odd whole) (items row))
          next_whole r after xs same h is x = made _ (next kind a r) is (λ row y. next_rule kind a step kinded tabled marked r xs row (at xs after _ same h) y) x

          module _ (r s : Rule) (hold goal xs ys : List S) (same : xs ≡ hold) (same' : ys ≡ goal) (f : Rowed A n (V odd r) hold) (g : Rowed A n (V odd s) goal) where
            pub until_whole : whole ≡ until kind r a s → IfOk result (λ row. Turning A (λ g h x. A.join g (A.meet h x)) step (length xs) xs ys (items row)) → IfOk result (λ row. Rowed A n (V odd whole) (items row))
            until_whole is x = made _ (until kind r a s) is (λ row y. until_rule kind a step kinded tabled marked r s xs ys row (at xs hold _ same f) (at ys goal _ same' g) y) x

            pub release_whole : whole ≡ release kind r a s → IfOk result (λ row. Turning A (λ g h x. A.meet g (A.join h x)) step (length xs) xs ys (items row)) → IfOk result (λ row. Rowed A n (V odd whole) (items row))
            release_whole is x = made _ (release kind r a s) is (λ row y. release_rule kind a step kinded tabled marked r s xs ys row (at xs hold _ same f) (at ys goal _ same' g) y) x
