-- A report of best or worst settles whether the rule holds on every endless continuation of the log. Assumes nothing.
use Rattle.std.proofs.Common.{◌≡◌, ℕ, zero, suc, ◌+◌, ◌-◌, ◌<◌, ◌≤◌, Bool, true, false, not, T, length, sym, ap, ◌∙◌, subst, ap₂, subst₂, ⊎_elim, arith}
use native.Mathlib.Decide.{dec_lt}
use Rattle.rule.specs.declared.leaf.Kind.{Kind}
use Rattle.rule.specs.declared.leaf.Kind.TheVariants.{SomeStrong, SomeWeak, EveryStrong, EveryWeak}
use Rattle.rule.specs.declared.leaf.Test.{Test}
use Rattle.rule.specs.Tree.{Segment, single, either, chain, star, Rule, letter, negated, both, any, next, until, release}
use Rattle.scale.specs.Laws.{Algebra, Lawful, Below}
use Rattle.scale.proofs.Lattice.{join_idem, join_worst, best_join, opposite_worst, opposite_best, below_refl, below_same, below_trans, below_left, below_right, first_below, second_below}
use Rattle.semantics.specs.Continuations.{Settling, Settles, value_along}
use Rattle.semantics.specs.Endless.{Or, Smallest, Largest, Lasting, Next, Holds}
use Rattle.semantics.specs.Folds.{joined}
use Rattle.semantics.specs.Marks.{Marks, verdict_marks, floor_marks, ceiling_marks}
use Rattle.semantics.specs.Positions.{matches, some_match, every_match, ended, next_of, worth}
use Rattle.semantics.specs.Reports.{test_on, value_on}
use Rattle.semantics.proofs.Bounds.{join_over_none, unrolled}
use Rattle.semantics.proofs.Prefixes.{backward, matches_same, open_same, match_past}
use Rattle.semantics.proofs.Ranges.{join_into}
use Rattle.semantics.proofs.Rising.{not_not}
use Rattle.semantics.proofs.Segments.{every_opposite}
use Rattle.semantics.proofs.Told.{told, told_yes, yes_told, both_told, none_told}
use Rattle.std.proofs.lemmas.Bool.{cases_eq, cases_lt, eq-eqb, ne_eqb, cond-true, cond-false}

-- best, or worst
abbrev top : {S : Type 0} → Algebra S → Bool → S
top A true = A.best
top A false = A.worst

abbrev Sense : {S : Type 0} → Algebra S → Bool → S → Type 0 → Type 0
Sense A true x P = x ≡ A.best → P
Sense A false x P = x ≡ A.worst → P → ⊥

-- if x is best, P holds; or, if x is worst, P does not hold
record Says {S : Type 0} (A : Algebra S) (good : Bool) (x : S) (P : Type 0) : Type 0 where
  says : Sense A good x P

module _ {S : Type 0} {A : Algebra S} (L : Lawful A) where
  best_above : {x : S} → Below A A.best x → x ≡ A.best
  best_above {x} p = sym p ∙ best_join L x

  worst_under : {x : S} → Below A x A.worst → x ≡ A.worst
  worst_under {x} p = sym (join_worst L x) ∙ p

  meet_parts : {x y : S} → A.meet x y ≡ A.best → (x ≡ A.best) × (y ≡ A.best)
  meet_parts {x} {y} e = (best_above (below_trans L (below_same L (sym e)) (first_below L x y)), best_above (below_trans L (below_same L (sym e)) (second_below L x y)))

  join_parts : {x y : S} → A.join x y ≡ A.worst → (x ≡ A.worst) × (y ≡ A.worst)
  join_parts {x} {y} e = (worst_under (below_trans L (below_left L x y) (below_same L e)), worst_under (below_trans L (below_right L x y) (below_same L e)))

  opposite_is_best : {x : S} → A.opposite x ≡ A.best → x ≡ A.worst
  opposite_is_best {x} e = sym (L.opposite_twice x) ∙ (ap A.opposite e ∙ opposite_best L)

  opposite_is_worst : {x : S} → A.opposite x ≡ A.worst → x ≡ A.best
  opposite_is_worst {x} e = sym (L.opposite_twice x) ∙ (ap A.opposite e ∙ opposite_worst L)

  with_best : {x y : S} → x ≡ A.best → A.meet x y ≡ A.worst → y ≡ A.worst
  with_best {x} {y} e d = sym (ap (λ z. A.meet z y) e ∙ L.best_meet y) ∙ d

  -- no match leads back
  matches_back : (value : Test → ℕ → S) (a : Segment) (i j : ℕ) → j ≤ i → matches A value a i j ≡ A.worst
  unfolding matches
  matches_back value (single t) i j l = cond-false _ _ _ (ne_eqb j (suc i) (λ e. omega arith))
  matches_back value (either a b) i j l = ap₂ A.join (matches_back value a i j l) (matches_back value b i j l) ∙ join_idem L A.worst
  matches_back value (chain a b) i j l = join_over_none A (suc i) j _ (omega arith)
  matches_back value (star a b) i j l = join_over_none A i j _ l

  module _ (G : Settling A) where
    best_part : (first count : ℕ) (f : ℕ → S) → joined A first count f ≡ A.best → (k : ℕ) × (first ≤ k) × (k < first + count) × (f k ≡ A.best)
    unfolding joined
    best_part first zero f e = absurd (L.apart e)
    best_part first (suc count) f e = ⊎_elim
        (λ d. let s = best_part first count f d in (s.0, s.1, omega (arith, s.2), s.3))
        (λ d. (first + count, omega arith, omega arith, d)) (G.join_best _ _ e)

    says_opposite : {x : S} {P : Type 0} (good : Bool) → Says A (not good) x P → Says A good (A.opposite x) (P → ⊥)
    says_opposite true h = record { says = λ e. h.says (opposite_is_best e) }
    says_opposite false h = record { says = λ e p. p (h.says (opposite_is_worst e)) }

    says_both : {x y : S} {P Q : Type 0} (good : Bool) → Says A good x P → Says A good y Q → Says A good (A.meet x y) (P × Q)
    says_both true p q = record { says = λ e. (p.says (meet_parts e).0, q.says (meet_parts e).1) }
    says_both false p q = record { says = λ e z. ⊎_elim (λ d. p.says d z.0) (λ d. q.says d z.1) (G.meet_worst _ _ e) }

    says_any : {x y : S} {P Q : Type 0} (good : Bool) → Says A good x P → Says A good y Q → Says A good (A.join x y) (Or P Q)
    says_any true p q = record { says = λ e z. ⊎_elim (λ d. z.0 (p.says d)) (λ d. z.1 (q.says d)) (G.join_best _ _ e) }
    says_any false p q = record { says = λ e z. z (p.says (join_parts e).0, q.says (join_parts e).1) }

    -- the sets that agree with their unrolling, for values that say what they unroll to
    module _ (n : ℕ) (F : ℕ → S) (U : (ℕ → Type 0) → ℕ → Type 0) where
      Step : Bool → Type 1
      Step good = (P : ℕ → Type 0) (i : ℕ) → i < n → ((j : ℕ) → i < j → j < n → Says A good (F j) (P j)) → Says A good (F i) (U P i)

      says_smallest : (good : Bool) → Step good → (i : ℕ) → i < n → Says A good (F i) (Smallest U i)
      unfolding Step
      says_smallest true step i l = record {
        says = λ e P closed. backward n (λ i. F i ≡ A.best → T (P i))
            (λ i l rest e. closed i ((step (λ j. T (P j)) i l (λ j p q. record { says = rest j p q })).says e)) i l e;
      }
      says_smallest false step i l = record {
        says = λ e s. told_yes (D i) (s (λ j. told (D j))
            (λ k u. yes_told (D k) (λ z. (step (λ j. T (told (D j))) k z.0 (λ j p q. record { says = λ d t. told_yes (D j) t (q, d) })).says z.1 u))) (l, e);
      }
        where
          D : (j : ℕ) → Dec (((j < n) × (F j ≡ A.worst)) → ⊥)
          D j = none_told (both_told (dec_lt j n) (G.worst_told (F j)))

      says_largest : (good : Bool) → Step good → (i : ℕ) → i < n → Says A good (F i) (Largest U i)
      unfolding Step
      says_largest true step i l = record {
        says = λ e none. none (λ j. told (D j)) (yes_told (D i) (l, e))
            (λ k t. (step (λ j. T (told (D j))) k (told_yes (D k) t).0 (λ j p q. record { says = λ d. yes_told (D j) (q, d) })).says (told_yes (D k) t).1);
      }
        where
          D : (j : ℕ) → Dec ((j < n) × (F j ≡ A.best))
          D j = both_told (dec_lt j n) (G.best_told (F j))
      says_largest false step i l = record {
        says = λ e some. some (λ P here out. backward n (λ i. F i ≡ A.worst → T (P i) → ⊥)
            (λ i l rest e t. (step (λ j. T (P j)) i l (λ j p q. record { says = rest j p q })).says e (out i t)) i l e here);
      }

      says_lasting : (k : Kind) (good : Bool) → Step good → (i : ℕ) → i < n → Says A good (F i) (Lasting k U i)
      says_lasting SomeStrong = says_smallest
      says_lasting EveryStrong = says_smallest
      says_lasting SomeWeak = says_largest
      says_lasting EveryWeak = says_largest

    -- v values the tests on the log of n letters, w on the endless log
    module _ (v w : Test → ℕ → S) (n : ℕ) (agree : (t : Test) (i : ℕ) → i < n → v t i ≡ w t i) where
      module _ (a : Segment) (i : ℕ) (inside : i < n) (f : ℕ → S) (x : S) where
        some_best : (x ≡ A.best → ⊥) → some_match A v n a f x i ≡ A.best
            → (j : ℕ) × (i < j) × (j < suc n) × (matches A w a i j ≡ A.best) × (f j ≡ A.best)
        some_best ne e = ⊎_elim
            (λ d. let s = best_part (suc i) (suc n - suc i) (λ j. A.meet (matches A v a i j) (f j)) d in
            (s.0, s.1, omega (arith, s.2), sym (matches_same A n v w agree a i s.0 (omega (arith, s.2))) ∙ (meet_parts s.3).0, (meet_parts s.3).1))
            (λ d. absurd (ne (meet_parts d).1)) (G.join_best _ _ e)

        some_worst : (x ≡ A.worst → ⊥) → some_match A v n a f x i ≡ A.worst
            → (j : ℕ) → matches A w a i j ≡ A.best → (i < j) × (j < suc n) × (f j ≡ A.worst)
        some_worst ne e j d = ⊎_elim
            (λ p. ⊎_elim
            (λ q. absurd (ne (with_best (open_same A n v w agree a i ∙ best_above (below_trans L (below_same L (sym d)) (match_past L w n a i j (omega arith) q))) (join_parts e).1)))
            (λ q. (
              p,
              omega arith,
              with_best (matches_same A n v w agree a i j q ∙ d)
                  (worst_under (below_trans L (join_into L (suc i) (suc n) (λ j. A.meet (matches A v a i j) (f j)) j p (omega arith) (below_refl L _)) (below_same L (join_parts e).0))),
            ))
            (cases_lt n j))
            (λ p. absurd (L.apart (sym (matches_back w a i j p) ∙ d))) (cases_lt i j)

      module _ (a : Segment) (i : ℕ) (inside : i < n) (f : ℕ → S) (x : S) where
        every_worst : (x ≡ A.worst → ⊥) → every_match A v n a f x i ≡ A.worst
            → (j : ℕ) × (i < j) × (j < suc n) × (matches A w a i j ≡ A.best) × (f j ≡ A.worst)
        every_worst ne e = let s = some_best a i inside (λ j. A.opposite (f j)) (A.opposite x) (λ d. ne (opposite_is_best d))
            (opposite_is_worst (sym (every_opposite L v n a f x i) ∙ e)) in (s.0, s.1, s.2, s.3, opposite_is_best s.4)

        every_best : (x ≡ A.best → ⊥) → every_match A v n a f x i ≡ A.best
            → (j : ℕ) → matches A w a i j ≡ A.best → (i < j) × (j < suc n) × (f j ≡ A.best)
        every_best ne e j d = let s = some_worst a i inside (λ j. A.opposite (f j)) (A.opposite x) (λ d. ne (opposite_is_worst d))
            (opposite_is_best (sym (every_opposite L v n a f x i) ∙ e)) j d in (s.0, s.1, opposite_is_worst s.2)

      -- what comes after a match that ends within the log, but for the mark
      says_after : (good : Bool) (f : ℕ → S) (x : S) (P : ℕ → Type 0) (i : ℕ) → (x ≡ top A good → ⊥) → ((j : ℕ) → i < j → j < n → Says A good (f j) (P j))
          → (j : ℕ) → i < j → j < suc n → Says A good (ended A v n f x j) (P j)
      says_after good f x P i ne h j p q = ⊎_elim
          (λ e. subst (λ z. Says A good z (P j)) (sym (cond-true _ _ _ (eq-eqb j n e))) (never good ne))
          (λ e. subst (λ z. Says A good z (P j)) (sym (cond-false _ _ _ (ne_eqb j n e))) (h j p (omega arith))) (cases_eq j n)
        where
          never : (good : Bool) → (x ≡ top A good → ⊥) → Says A good x (P j)
          never true ne = record { says = λ e. absurd (ne e) }
          never false ne = record { says = λ e s. ne e }

      says_next : (good : Bool) (k : Kind) (a : Segment) (f : ℕ → S) (x : S) (P : ℕ → Type 0) (i : ℕ) → i < n → (x ≡ top A good → ⊥)
          → ((j : ℕ) → i < j → j < n → Says A good (f j) (P j)) → Says A good (next_of A v n k a f x i) (Next A w k a P i)
      says_next good k a f x P i l ne h = go good k ne (says_after good f x P i ne h)
        where
          g : ℕ → S
          g = ended A v n f x

          some : (good : Bool) → (x ≡ top A good → ⊥) → ((j : ℕ) → i < j → j < suc n → Says A good (g j) (P j))
              → Says A good (some_match A v n a g x i) (((j : ℕ) → (matches A w a i j ≡ A.best) × P j → ⊥) → ⊥)
          some true ne h = record { says = λ e none. let s = some_best a i l g x ne e in none s.0 (s.3, (h s.0 s.1 s.2).says s.4) }
          some false ne h = record { says = λ e z. z (λ j t. let s = some_worst a i l g x ne e j t.0 in (h j s.0 s.1).says s.2 t.1) }

          every : (good : Bool) → (x ≡ top A good → ⊥) → ((j : ℕ) → i < j → j < suc n → Says A good (g j) (P j))
              → Says A good (every_match A v n a g x i) ((j : ℕ) → matches A w a i j ≡ A.best → P j)
          every true ne h = record { says = λ e j d. let s = every_best a i l g x ne e j d in (h j s.0 s.1).says s.2 }
          every false ne h = record { says = λ e z. let s = every_worst a i l g x ne e in (h s.0 s.1 s.2).says s.4 (z s.0 s.3) }

          go : (good : Bool) (k : Kind) → (x ≡ top A good → ⊥) → ((j : ℕ) → i < j → j < suc n → Says A good (g j) (P j))
              → Says A good (next_of A v n k a f x i) (Next A w k a P i)
          go good SomeStrong = some good
          go good SomeWeak = some good
          go good EveryStrong = every good
          go good EveryWeak = every good

      -- if no mark of the rule is best, best says that it holds; if none is worst, worst says that it does not
      worth_says : (r : Rule) (mark : Marks S) (odd good : Bool) → ((k : Kind) → mark odd k ≡ top A good → ⊥) → ((k : Kind) → mark (not odd) k ≡ top A (not good) → ⊥)
          → (i : ℕ) → i < n → Says A good (worth A v n mark odd r i) (Holds A w r i)
      unfolding worth Holds Step
      worth_says (letter t) mark odd good d e i l = go good
        where
          go : (good : Bool) → Says A good (v t i) (w t i ≡ A.best)
          go true = record { says = λ s. sym (agree t i l) ∙ s }
          go false = record { says = λ s u. L.apart (sym s ∙ (agree t i l ∙ u)) }
      worth_says (negated r) mark odd good d e i l = says_opposite good (worth_says r mark (not odd) (not good) e
          (subst₂ (λ o g. (k : Kind) → mark o k ≡ top A g → ⊥) (not_not odd) (not_not good) d) i l)
      worth_says (both r s) mark odd good d e i l = says_both good (worth_says r mark odd good d e i l) (worth_says s mark odd good d e i l)
      worth_says (any r s) mark odd good d e i l = says_any good (worth_says r mark odd good d e i l) (worth_says s mark odd good d e i l)
      worth_says (next k a r) mark odd good d e i l = says_next good k a _ _ _ i l (d k) (λ j p q. worth_says r mark odd good d e j q)
      worth_says (until k r a s) mark odd good d e i l =
          says_lasting n (worth A v n mark odd (until k r a s)) (λ P j. Or (Holds A w s j) (Holds A w r j × Next A w k a P j)) k good
          (λ P i l h. subst (λ x. Says A good x (Or (Holds A w s i) (Holds A w r i × Next A w k a P i))) (sym (unrolled A v n mark odd k r a s i l).until_is)
          (says_any good (worth_says s mark odd good d e i l) (says_both good (worth_says r mark odd good d e i l) (says_next good k a _ _ P i l (d k) h)))) i l
      worth_says (release k r a s) mark odd good d e i l =
          says_lasting n (worth A v n mark odd (release k r a s)) (λ P j. Holds A w s j × Or (Holds A w r j) (Next A w k a P j)) k good
          (λ P i l h. subst (λ x. Says A good x (Holds A w s i × Or (Holds A w r i) (Next A w k a P i))) (sym (unrolled A v n mark odd k r a s i l).release_is)
          (says_both good (worth_says s mark odd good d e i l) (says_any good (worth_says r mark odd good d e i l) (says_next good k a _ _ P i l (d k) h)))) i l

pub settles : {S : Type 0} {A : Algebra S} → Lawful A → Settles A
settles {S} {A} L G r log endless l continues = record {
  verdict_best = (said (verdict_marks A) true no_best no_worst).says;
  verdict_worst = (said (verdict_marks A) false no_worst no_best).says;
  floor_best = (said (floor_marks A) true (λ k. L.apart) (λ k e. L.apart (sym e))).says;
  ceiling_worst = (said (ceiling_marks A) false (λ k e. L.apart (sym e)) (λ k. L.apart)).says;
}
  where
    agree : (t : Test) (i : ℕ) → i < length log → value_on A log t i ≡ value_along A endless t i
    agree t i q = ap (test_on A t.channel t.opposite) (sym (continues i q))

    said : (mark : Marks S) (good : Bool) → ((k : Kind) → mark false k ≡ top A good → ⊥) → ((k : Kind) → mark true k ≡ top A (not good) → ⊥)
        → Says A good (worth A (value_on A log) (length log) mark false r 0) (Holds A (value_along A endless) r 0)
    said mark good d e = worth_says L G (value_on A log) (value_along A endless) (length log) agree r mark false good d e 0 l

    no_best : (k : Kind) → verdict_marks A false k ≡ A.best → ⊥
    no_best SomeStrong = G.pending_best
    no_best SomeWeak = G.presumed_best
    no_best EveryStrong = G.pending_best
    no_best EveryWeak = G.presumed_best

    no_worst : (k : Kind) → verdict_marks A false k ≡ A.worst → ⊥
    no_worst SomeStrong = G.pending_worst
    no_worst SomeWeak = G.presumed_worst
    no_worst EveryStrong = G.pending_worst
    no_worst EveryWeak = G.presumed_worst
