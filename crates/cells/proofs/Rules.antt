-- The step takes the meanings of a rule's cells after a letter to their meanings before it. Assumes nothing.
use Rattle.std.proofs.Common.{◌≡◌, ℕ, suc, ◌+◌, ◌<◌, false, List, [], ◌∷◌, ◌++◌, length, get_or, sym, refl, ap, ◌∙◌, subst, ap₂, arith, length-append}
use Rattle.cells.specs.Step.{test_cells, inner_cells, wants_every, next_before, tests_before, before, befores, step, inner_marks, end_marks}
use Rattle.cells.specs.Meaning.{along, tests_mean, mean, cells_mean, Positive}
use Rattle.cells.proofs.Segments.{Reads, next_is, tests_are, tests_length, tests_end}
use Rattle.rule.specs.declared.leaf.Kind.{Kind}
use Rattle.rule.specs.declared.leaf.Kind.TheVariants.{SomeStrong, SomeWeak, EveryStrong, EveryWeak}
use Rattle.rule.specs.declared.leaf.Test.{Test}
use Rattle.rule.specs.Tree.{Segment, Rule, letter, negated, both, any, next, until, release}
use Rattle.scale.specs.Laws.{Algebra, Lawful}
use Rattle.semantics.specs.Positions.{some_match, every_match, ended, next_of, worth}
use Rattle.semantics.proofs.Bounds.{unrolled}
use Rattle.std.proofs.lemmas.Bool.{eq-eqb, ne_eqb, cond-true, cond-false}

module _ {S : Type 0} (after : ℕ → S) where
  reads_left : (xs ys : List S) (base : ℕ) → Reads after base (xs ++ ys) → Reads after base xs
  reads_left [] ys base v = record {}
  reads_left (x ∷ xs) ys base v = (v.0, reads_left xs ys (suc base) v.1)

  reads_right : (xs ys : List S) (base on : ℕ) → Reads after base (xs ++ ys) → on ≡ base + length xs → Reads after on ys
  reads_right [] ys base on v e = let same : base ≡ on = omega arith in subst (λ b. Reads after b ys) same v
  reads_right (x ∷ xs) ys base on v e = reads_right xs ys (suc base) on v.1 (omega arith)

  pub reads_all : (xs : List S) (base : ℕ) (d : S) → ((k : ℕ) → after (k + base) ≡ get_or xs k d) → Reads after base xs
  reads_all [] base d h = record {}
  reads_all (x ∷ xs) base d h =
      let here : 0 + base ≡ base = omega arith in
      (ap after (sym here) ∙ h 0, reads_all xs (suc base) d (λ k. let e : k + suc base ≡ suc k + base = omega arith in ap after e ∙ h (suc k)))

module _ {S : Type 0} (A : Algebra S) (value : Test → ℕ → S) (n : ℕ) where
  pub ended_now : (f : ℕ → S) (m : S) (i : ℕ) → i < n → ended A value n f m i ≡ f i
  ended_now f m i h = cond-false _ _ _ (ne_eqb i n (λ e. omega arith))

  pub ended_end : (f : ℕ → S) (m : S) → ended A value n f m n ≡ m
  ended_end f m = cond-true _ _ _ (eq-eqb n n refl)

  -- a next goes along its segment
  pub next_along : (k : Kind) (a : Segment) (f : ℕ → S) (m : S) (i : ℕ) → next_of A value n k a f m i ≡ along A value n (wants_every k) a (ended A value n f m) i
  next_along SomeStrong a f m i = ap (λ x. some_match A value n a (ended A value n f m) x i) (sym (ended_end f m))
  next_along SomeWeak a f m i = ap (λ x. some_match A value n a (ended A value n f m) x i) (sym (ended_end f m))
  next_along EveryStrong a f m i = ap (λ x. every_match A value n a (ended A value n f m) x i) (sym (ended_end f m))
  next_along EveryWeak a f m i = ap (λ x. every_match A value n a (ended A value n f m) x i) (sym (ended_end f m))

module _ {S : Type 0} {A : Algebra S} (L : Lawful A) (value : Test → ℕ → S) (n : ℕ) (mark : Kind → S) where
  mean_length : (r : Rule) (i : ℕ) → length (mean A value n mark r i) ≡ inner_cells r
  unfolding mean inner_cells
  mean_length (letter t) i = refl
  mean_length (negated r) i = mean_length r i
  mean_length (both r s) i = simp length-append (ap₂ ◌+◌ (mean_length r i) (mean_length s i))
  mean_length (any r s) i = simp length-append (ap₂ ◌+◌ (mean_length r i) (mean_length s i))
  mean_length (next k a r) i = ap suc (simp length-append (ap₂ ◌+◌ (tests_length L value n k a _ i) (mean_length r i)))
  mean_length (until k r a s) i =
      ap suc (simp length-append (ap₂ ◌+◌ (mean_length r i) (ap₂ ◌+◌ (tests_length L value n k a _ i) (mean_length s i))))
  mean_length (release k r a s) i =
      ap suc (simp length-append (ap₂ ◌+◌ (mean_length r i) (ap₂ ◌+◌ (tests_length L value n k a _ i) (mean_length s i))))

  abbrev worth_at : Rule → ℕ → S
  worth_at = worth A value n (λ odd kind. mark kind) false

  mean_end : (r : Rule) → Positive r → mean A value n mark r n ≡ inner_marks mark r
  unfolding mean inner_marks
  mean_end (letter t) p = refl
  mean_end (negated r) p = absurd p
  mean_end (both r s) p = ap₂ ◌++◌ (mean_end r p.0) (mean_end s p.1)
  mean_end (any r s) p = ap₂ ◌++◌ (mean_end r p.0) (mean_end s p.1)
  mean_end (next k a r) p =
      let e = ended_end A value n (worth_at r) (mark k) in
      ap₂ (λ x r. x ∷ r) e (ap₂ ◌++◌ (tests_end L value n (mark k) k a _ e) (mean_end r p))
  mean_end (until k r a s) p =
      let e = ended_end A value n (worth_at (until k r a s)) (mark k) in
      ap₂ (λ x r. x ∷ r) e (ap₂ ◌++◌ (mean_end r p.0) (ap₂ ◌++◌ (tests_end L value n (mark k) k a _ e) (mean_end s p.1)))
  mean_end (release k r a s) p =
      let e = ended_end A value n (worth_at (release k r a s)) (mark k) in
      ap₂ (λ x r. x ∷ r) e (ap₂ ◌++◌ (mean_end r p.0) (ap₂ ◌++◌ (tests_end L value n (mark k) k a _ e) (mean_end s p.1)))

  pub cells_end : (whole : S) (r : Rule) → Positive r → cells_mean A value n mark whole r n ≡ end_marks whole mark r
  cells_end whole r p = ap₂ (λ x r. x ∷ r) (ended_end A value n (worth_at r) whole) (mean_end r p)

  module _ (i : ℕ) (h : i < n) (after : ℕ → S) where
    abbrev Steps : Rule → ℕ → Type 0
    Steps r base = (before A (λ t. value t i) after r base ≡ worth_at r i) × (befores A (λ t. value t i) after r base ≡ mean A value n mark r i)

    -- the parts of a U or an R
    record Held (k : Kind) (r : Rule) (a : Segment) (s : Rule) (then : ℕ → S) (base : ℕ) : Type 0 where
      hold : Reads after (suc base) (mean A value n mark r (suc i))
      goal : Reads after (suc base + inner_cells r + test_cells a) (mean A value n mark s (suc i))
      next_step : next_before A (λ t. value t i) after k a base (suc base + inner_cells r) ≡ along A value n (wants_every k) a then i
      test_steps : tests_before A (λ t. value t i) after k a base (suc base + inner_cells r) ≡ tests_mean A value n k a then i

    held : (k : Kind) (r : Rule) (a : Segment) (s : Rule) (then : ℕ → S) (base : ℕ)
        → Reads after base (then (suc i) ∷ (mean A value n mark r (suc i) ++ (tests_mean A value n k a then (suc i) ++ mean A value n mark s (suc i))))
        → Held k r a s then base
    held k r a s then base v =
        let l = mean_length r (suc i) in
        let m = tests_length L value n k a then (suc i) in
        let rest = reads_right after (mean A value n mark r (suc i)) _ (suc base) (suc base + inner_cells r) v.1 (omega arith) in
        let tests = reads_left after (tests_mean A value n k a then (suc i)) _ (suc base + inner_cells r) rest in
        record {
          hold = reads_left after (mean A value n mark r (suc i)) _ (suc base) v.1;
          goal = reads_right after (tests_mean A value n k a then (suc i)) _ (suc base + inner_cells r) _ rest (omega arith);
          next_step = next_is L value n i h after k a then base (suc base + inner_cells r) v.0 tests;
          test_steps = tests_are L value n i h after k a then base (suc base + inner_cells r) v.0 tests;
        }

    rule_steps : (r : Rule) → Positive r → (base : ℕ) → Reads after base (mean A value n mark r (suc i)) → Steps r base
    unfolding before befores worth mean
    rule_steps (letter t) p base v = (refl, refl)
    rule_steps (negated r) p base v = absurd p
    rule_steps (both r s) p base v =
        let l = mean_length r (suc i) in
        let x = rule_steps r p.0 base (reads_left after _ _ base v) in
        let y = rule_steps s p.1 (base + inner_cells r) (reads_right after (mean A value n mark r (suc i)) _ base _ v (omega arith)) in
        (ap₂ A.meet x.0 y.0, ap₂ ◌++◌ x.1 y.1)
    rule_steps (any r s) p base v =
        let l = mean_length r (suc i) in
        let x = rule_steps r p.0 base (reads_left after _ _ base v) in
        let y = rule_steps s p.1 (base + inner_cells r) (reads_right after (mean A value n mark r (suc i)) _ base _ v (omega arith)) in
        (ap₂ A.join x.0 y.0, ap₂ ◌++◌ x.1 y.1)
    rule_steps (next k a r) p base v =
        let then : ℕ → S = ended A value n (worth_at r) (mark k) in
        let l = tests_length L value n k a then (suc i) in
        let tests = reads_left after (tests_mean A value n k a then (suc i)) _ (suc base) v.1 in
        let x = rule_steps r p (suc base + test_cells a) (reads_right after (tests_mean A value n k a then (suc i)) _ (suc base) _ v.1 (omega arith)) in (
          next_is L value n i h after k a then base (suc base) v.0 tests ∙ sym (next_along A value n k a (worth_at r) (mark k) i),
          ap₂ (λ x r. x ∷ r) (x.0 ∙ sym (ended_now A value n (worth_at r) (mark k) i h))
              (ap₂ ◌++◌ (tests_are L value n i h after k a then base (suc base) v.0 tests) x.1),
        )
    rule_steps (until k r a s) p base v =
        let f : ℕ → S = worth_at (until k r a s) in
        let c = held k r a s (ended A value n f (mark k)) base v in
        let x = rule_steps r p.0 (suc base) c.hold in
        let y = rule_steps s p.1 (suc base + inner_cells r + test_cells a) c.goal in
        let now : before A (λ t. value t i) after (until k r a s) base ≡ f i =
        ap₂ A.join y.0 (ap₂ A.meet x.0 (c.next_step ∙ sym (next_along A value n k a f (mark k) i)))
        ∙ sym (unrolled A value n (λ odd kind. mark kind) false k r a s i h).until_is in
        (now, ap₂ (λ x r. x ∷ r) (now ∙ sym (ended_now A value n f (mark k) i h)) (ap₂ ◌++◌ x.1 (ap₂ ◌++◌ c.test_steps y.1)))
    rule_steps (release k r a s) p base v =
        let f : ℕ → S = worth_at (release k r a s) in
        let c = held k r a s (ended A value n f (mark k)) base v in
        let x = rule_steps r p.0 (suc base) c.hold in
        let y = rule_steps s p.1 (suc base + inner_cells r + test_cells a) c.goal in
        let now : before A (λ t. value t i) after (release k r a s) base ≡ f i =
        ap₂ A.meet y.0 (ap₂ A.join x.0 (c.next_step ∙ sym (next_along A value n k a f (mark k) i)))
        ∙ sym (unrolled A value n (λ odd kind. mark kind) false k r a s i h).release_is in
        (now, ap₂ (λ x r. x ∷ r) (now ∙ sym (ended_now A value n f (mark k) i h)) (ap₂ ◌++◌ x.1 (ap₂ ◌++◌ c.test_steps y.1)))

  pub cells_step : (whole : S) (r : Rule) → Positive r → (i : ℕ) → i < n
      → step A (λ t. value t i) (λ k. get_or (cells_mean A value n mark whole r (suc i)) k A.worst) r ≡ cells_mean A value n mark whole r i
  cells_step whole r p i h =
      let after : ℕ → S = λ k. get_or (cells_mean A value n mark whole r (suc i)) k A.worst in
      let x = rule_steps i h after r p 1 (reads_all after (mean A value n mark r (suc i)) 1 A.worst
      (λ k. let e : k + 1 ≡ suc k = omega arith in ap after e)) in
      ap₂ (λ x r. x ∷ r) (x.0 ∙ sym (ended_now A value n (worth_at r) whole i h)) x.1
