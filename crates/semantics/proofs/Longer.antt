-- Whatever letters come, the later report lies between the earlier floor and the earlier ceiling. Assumes nothing.
use Rattle.std.proofs.Common.{◌≡◌, ℕ, suc, ◌<◌, ◌≤◌, Bool, true, false, not, ◌++◌, length, sym, refl, ap, ◌∙◌, subst₂, ⊎_elim, arith}
use Rattle.rule.specs.declared.leaf.Kind.{Kind}
use Rattle.rule.specs.declared.leaf.Kind.TheVariants.{SomeStrong, SomeWeak, EveryStrong, EveryWeak}
use Rattle.rule.specs.declared.leaf.Test.{Test}
use Rattle.rule.specs.Tree.{Segment, Rule, letter, negated, both, any, next, until, release}
use Rattle.scale.specs.Laws.{Algebra, Lawful, Below}
use Rattle.scale.proofs.Lattice.{opposite_worst, opposite_best, below_same, below_trans, worst_below, below_best, either_below, into_left, into_right, below_both, from_first, from_second, join_rises, meet_rises, opposite_falls}
use Rattle.semantics.specs.Later.{Later}
use Rattle.semantics.specs.Marks.{Marks, verdict_marks, floor_marks, ceiling_marks}
use Rattle.semantics.specs.Positions.{open_at, some_match, every_match, ended, next_of, worth}
use Rattle.semantics.specs.Reports.{test_on, value_on}
use Rattle.semantics.proofs.Bounds.{unrolled}
use Rattle.semantics.proofs.Prefixes.{backward, matches_same, open_same, match_past, open_falls}
use Rattle.semantics.proofs.Ranges.{join_into, join_below}
use Rattle.semantics.proofs.Rising.{not_not}
use Rattle.semantics.proofs.Segments.{every_opposite}
use Rattle.std.proofs.lemmas.List.Prefix.{front_reads}
use Rattle.std.proofs.lemmas.List.{length-append}
use Rattle.std.proofs.lemmas.Bool.{cases_eq, cases_lt, eq-eqb, ne_eqb, cond-true, cond-false}

abbrev Side : {S : Type 0} → Algebra S → Bool → S → S → Type 0
Side A true x y = Below A x y
Side A false x y = Below A y x

-- x lies below y, or above
record Ordered {S : Type 0} (A : Algebra S) (up : Bool) (x y : S) : Type 0 where
  side : Side A up x y

-- the value that lies below all, or above
abbrev extreme : {S : Type 0} → Algebra S → Bool → S
extreme A true = A.worst
extreme A false = A.best

module _ {S : Type 0} {A : Algebra S} (L : Lawful A) where
  same_ordered : {x y : S} (up : Bool) → x ≡ y → Ordered A up x y
  same_ordered true e = record { side = below_same L e }
  same_ordered false e = record { side = below_same L (sym e) }

  join_ordered : {x y z w : S} (up : Bool) → Ordered A up x z → Ordered A up y w → Ordered A up (A.join x y) (A.join z w)
  join_ordered true p q = record { side = join_rises L p.side q.side }
  join_ordered false p q = record { side = join_rises L p.side q.side }

  meet_ordered : {x y z w : S} (up : Bool) → Ordered A up x z → Ordered A up y w → Ordered A up (A.meet x y) (A.meet z w)
  meet_ordered true p q = record { side = meet_rises L p.side q.side }
  meet_ordered false p q = record { side = meet_rises L p.side q.side }

  opposite_ordered : {x y : S} (up : Bool) → Ordered A (not up) x y → Ordered A up (A.opposite x) (A.opposite y)
  opposite_ordered true p = record { side = opposite_falls L p.side }
  opposite_ordered false p = record { side = opposite_falls L p.side }

  ordered_opposite : {x y : S} (up : Bool) → Ordered A up x y → Ordered A (not up) (A.opposite x) (A.opposite y)
  ordered_opposite true p = record { side = opposite_falls L p.side }
  ordered_opposite false p = record { side = opposite_falls L p.side }

  opposite_extreme : (up : Bool) → A.opposite (extreme A up) ≡ extreme A (not up)
  opposite_extreme true = opposite_worst L
  opposite_extreme false = opposite_best L

  -- v values the tests on a log of n letters, w on a longer one of m
  module _ (v w : Test → ℕ → S) (n m : ℕ) (longer : n ≤ m) (agree : (t : Test) (i : ℕ) → i < n → v t i ≡ w t i) where
    module _ (a : Segment) (i : ℕ) (inside : i < n) where
      -- with a mark of worst, what counts in the log counts in the longer one
      some_rises : (f g : ℕ → S) (x y : S) → ((j : ℕ) → i < j → j < n → Below A (f j) (g j)) → f n ≡ A.worst → x ≡ A.worst
          → Below A (some_match A v n a f x i) (some_match A w m a g y i)
      some_rises f g x y h e d = either_below L
          (join_below L (suc i) (suc n) (λ j p q. ⊎_elim (λ s. vanishes (ap f s ∙ e))
          (λ s. into_left L _ (join_into L (suc i) (suc m) _ j p (omega arith)
          (meet_rises L (below_same L (matches_same A n v w agree a i j (omega arith))) (h j p (omega arith))))) (cases_eq j n)))
          (vanishes d)
        where
          vanishes : {x y z : S} → y ≡ A.worst → Below A (A.meet x y) z
          vanishes s = from_second L _ (below_trans L (below_same L s) (worst_below L _))

      -- with a mark of best, what counts in the longer log counts in this one
      some_falls : (f g : ℕ → S) (x y : S) → ((j : ℕ) → i < j → j < n → Below A (g j) (f j)) → f n ≡ A.best → x ≡ A.best
          → Below A (some_match A w m a g y i) (some_match A v n a f x i)
      some_falls f g x y h e d = either_below L
          (join_below L (suc i) (suc m) (λ j p q. ⊎_elim
          (λ s. from_first L _ (opened (match_past L w n a i j (omega arith) s)))
          (λ s. into_left L _ (join_into L (suc i) (suc n) _ j p (omega arith)
          (meet_rises L (below_same L (sym (matches_same A n v w agree a i j s)))
          (⊎_elim (λ r. counts (ap f r ∙ e)) (λ r. h j p (omega arith)) (cases_eq j n))))) (cases_lt n j)))
          (from_first L _ (opened (open_falls L w n m longer a i (omega arith))))
        where
          counts : {x y : S} → y ≡ A.best → Below A x y
          counts s = below_trans L (below_best L _) (below_same L (sym s))

          opened : {z : S} → Below A z (open_at A w n a i) → Below A z (some_match A v n a f x i)
          opened p = into_right L _ (below_both L (below_trans L p (below_same L (sym (open_same A n v w agree a i)))) (counts d))

      some_ordered : (up : Bool) (f g : ℕ → S) (x y : S) → ((j : ℕ) → i < j → j < n → Ordered A up (f j) (g j)) → f n ≡ extreme A up → x ≡ extreme A up
          → Ordered A up (some_match A v n a f x i) (some_match A w m a g y i)
      some_ordered true f g x y h e d = record { side = some_rises f g x y (λ j p q. (h j p q).side) e d }
      some_ordered false f g x y h e d = record { side = some_falls f g x y (λ j p q. (h j p q).side) e d }

      every_ordered : (up : Bool) (f g : ℕ → S) (x y : S) → ((j : ℕ) → i < j → j < n → Ordered A up (f j) (g j)) → f n ≡ extreme A up → x ≡ extreme A up
          → Ordered A up (every_match A v n a f x i) (every_match A w m a g y i)
      every_ordered up f g x y h e d = subst₂ (Ordered A up) (sym (every_opposite L v n a f x i)) (sym (every_opposite L w m a g y i))
          (opposite_ordered up (some_ordered (not up) _ _ _ _ (λ j p q. ordered_opposite up (h j p q))
          (ap A.opposite e ∙ opposite_extreme up) (ap A.opposite d ∙ opposite_extreme up)))

      next_ordered : (up : Bool) (k : Kind) (f g : ℕ → S) (x y : S) → ((j : ℕ) → i < j → j < n → Ordered A up (f j) (g j)) → x ≡ extreme A up
          → Ordered A up (next_of A v n k a f x i) (next_of A w m k a g y i)
      next_ordered up k f g x y h d = go k
        where
          within : (j : ℕ) → i < j → j < n → Ordered A up (ended A v n f x j) (ended A w m g y j)
          within j p q = subst₂ (Ordered A up) (sym (cond-false _ _ _ (ne_eqb j n (λ e. omega arith)))) (sym (cond-false _ _ _ (ne_eqb j m (λ e. omega arith)))) (h j p q)

          at_end : ended A v n f x n ≡ extreme A up
          at_end = cond-true _ _ _ (eq-eqb n n refl) ∙ d

          go : (k : Kind) → Ordered A up (next_of A v n k a f x i) (next_of A w m k a g y i)
          go SomeStrong = some_ordered up (ended A v n f x) (ended A w m g y) x y within at_end d
          go SomeWeak = some_ordered up (ended A v n f x) (ended A w m g y) x y within at_end d
          go EveryStrong = every_ordered up (ended A v n f x) (ended A w m g y) x y within at_end d
          go EveryWeak = every_ordered up (ended A v n f x) (ended A w m g y) x y within at_end d

    -- a rule whose marks count for nothing lies below the same rule on the longer log; one whose marks count for all above
    worth_ordered : (r : Rule) (low high : Marks S) (odd up : Bool) → ((k : Kind) → low odd k ≡ extreme A up) → ((k : Kind) → low (not odd) k ≡ extreme A (not up))
        → (i : ℕ) → i < n → Ordered A up (worth A v n low odd r i) (worth A w m high odd r i)
    unfolding worth
    worth_ordered (letter t) low high odd up d e i l = same_ordered up (agree t i l)
    worth_ordered (negated r) low high odd up d e i l = opposite_ordered up
        (worth_ordered r low high (not odd) (not up) e (subst₂ (λ o u. (k : Kind) → low o k ≡ extreme A u) (not_not odd) (not_not up) d) i l)
    worth_ordered (both r s) low high odd up d e i l = meet_ordered up (worth_ordered r low high odd up d e i l) (worth_ordered s low high odd up d e i l)
    worth_ordered (any r s) low high odd up d e i l = join_ordered up (worth_ordered r low high odd up d e i l) (worth_ordered s low high odd up d e i l)
    worth_ordered (next k a r) low high odd up d e i l = next_ordered a i l up k _ _ _ _ (λ j p q. worth_ordered r low high odd up d e j q) (d k)
    worth_ordered (until k r a s) low high odd up d e i l = backward n (λ i. Ordered A up (worth A v n low odd (until k r a s) i) (worth A w m high odd (until k r a s) i))
        (λ i l rest. subst₂ (Ordered A up) (sym (unrolled A v n low odd k r a s i l).until_is) (sym (unrolled A w m high odd k r a s i (omega arith)).until_is)
        (join_ordered up (worth_ordered s low high odd up d e i l) (meet_ordered up (worth_ordered r low high odd up d e i l) (next_ordered a i l up k _ _ _ _ rest (d k))))) i l
    worth_ordered (release k r a s) low high odd up d e i l = backward n (λ i. Ordered A up (worth A v n low odd (release k r a s) i) (worth A w m high odd (release k r a s) i))
        (λ i l rest. subst₂ (Ordered A up) (sym (unrolled A v n low odd k r a s i l).release_is) (sym (unrolled A w m high odd k r a s i (omega arith)).release_is)
        (meet_ordered up (worth_ordered s low high odd up d e i l) (join_ordered up (worth_ordered r low high odd up d e i l) (next_ordered a i l up k _ _ _ _ rest (d k))))) i l

pub later : {S : Type 0} {A : Algebra S} → Lawful A → Later A
later {S} {A} L r log more l = record {
  floor_floor = above (floor_marks A);
  floor_verdict = above (verdict_marks A);
  floor_ceiling = above (ceiling_marks A);
  ceiling_floor = under (floor_marks A);
  ceiling_verdict = under (verdict_marks A);
  ceiling_ceiling = under (ceiling_marks A);
}
  where
    agree : (t : Test) (i : ℕ) → i < length log → value_on A log t i ≡ value_on A (log ++ more) t i
    agree t i q = ap (test_on A t.channel t.opposite) (sym (front_reads _ (log ++ more) log more refl i q))

    longer : length log ≤ length (log ++ more)
    longer = omega (arith, length-append log more)

    above : (high : Marks S) → Below A (worth A (value_on A log) (length log) (floor_marks A) false r 0) (worth A (value_on A (log ++ more)) (length (log ++ more)) high false r 0)
    above high = (worth_ordered L (value_on A log) (value_on A (log ++ more)) (length log) (length (log ++ more)) longer agree r (floor_marks A) high false true (λ k. refl) (λ k. refl) 0 l).side

    under : (high : Marks S) → Below A (worth A (value_on A (log ++ more)) (length (log ++ more)) high false r 0) (worth A (value_on A log) (length log) (ceiling_marks A) false r 0)
    under high = (worth_ordered L (value_on A log) (value_on A (log ++ more)) (length log) (length (log ++ more)) longer agree r (ceiling_marks A) high false false (λ k. refl) (λ k. refl) 0 l).side
