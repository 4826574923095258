-- Joins and meets over a range of positions, by the laws of a scale. Assumes nothing.
use Rattle.std.proofs.Common.{◌≡◌, ℕ, zero, suc, ◌+◌, ◌-◌, ◌<◌, ◌≤◌, sym, ap, ◌∙◌, ⊎_elim, arith}
use Rattle.scale.specs.Laws.{Algebra, Lawful, Below}
use Rattle.scale.proofs.Lattice.{meet_worst, opposite_worst, below_refl, below_same, below_trans, below_antisym, worst_below, below_best, either_below, into_left, into_right, second_below, below_both, from_first, turned}
use Rattle.semantics.specs.Folds.{joined, met, join_over, meet_over}
use Rattle.std.proofs.lemmas.Bool.{cases_eq, cases_lt}

module _ {S : Type 0} {A : Algebra S} (L : Lawful A) where
  joined_into : (first count : ℕ) (f : ℕ → S) (k : ℕ) → first ≤ k → k < first + count → Below A (f k) (joined A first count f)
  unfolding joined
  joined_into first zero f k l h = absurd (omega arith)
  joined_into first (suc count) f k l h = ⊎_elim (λ e. into_right L _ (below_same L (ap f e)))
      (λ ne. into_left L _ (joined_into first count f k l (omega arith))) (cases_eq k (first + count))

  joined_below : (first count : ℕ) (f : ℕ → S) (z : S) → ((k : ℕ) → first ≤ k → k < first + count → Below A (f k) z) → Below A (joined A first count f) z
  unfolding joined
  joined_below first zero f z h = worst_below L z
  joined_below first (suc count) f z h =
      either_below L (joined_below first count f z (λ k l m. h k l (omega arith))) (h (first + count) (omega arith) (omega arith))

  meet_joined : (first count : ℕ) (f : ℕ → S) (w : S) → A.meet w (joined A first count f) ≡ joined A first count (λ k. A.meet w (f k))
  unfolding joined
  meet_joined first zero f w = meet_worst L w
  meet_joined first (suc count) f w = L.meet_join w _ _ ∙ ap (λ x. A.join x (A.meet w (f (first + count)))) (meet_joined first count f w)

  from_met : (first count : ℕ) (f : ℕ → S) (k : ℕ) → first ≤ k → k < first + count → Below A (met A first count f) (f k)
  unfolding met
  from_met first zero f k l h = absurd (omega arith)
  from_met first (suc count) f k l h = ⊎_elim (λ e. below_trans L (second_below L _ _) (below_same L (ap f (sym e))))
      (λ ne. from_first L _ (from_met first count f k l (omega arith))) (cases_eq k (first + count))

  below_met : (first count : ℕ) (f : ℕ → S) (z : S) → ((k : ℕ) → first ≤ k → k < first + count → Below A z (f k)) → Below A z (met A first count f)
  unfolding met
  below_met first zero f z h = below_best L z
  below_met first (suc count) f z h =
      below_both L (below_met first count f z (λ k l m. h k l (omega arith))) (h (first + count) (omega arith) (omega arith))

  opposite_joined : (first count : ℕ) (f : ℕ → S) → A.opposite (joined A first count f) ≡ met A first count (λ k. A.opposite (f k))
  unfolding joined met
  opposite_joined first zero f = opposite_worst L
  opposite_joined first (suc count) f = L.opposite_join _ _ ∙ ap (λ x. A.meet x (A.opposite (f (first + count)))) (opposite_joined first count f)

  -- what lies below one of the values lies below their join
  pub join_into : {x : S} (low high : ℕ) (f : ℕ → S) (k : ℕ) → low ≤ k → k < high → Below A x (f k) → Below A x (join_over A low high f)
  join_into low high f k l h p = below_trans L p (joined_into low (high - low) f k l (omega arith))

  -- a join lies below what all its values lie below
  pub join_below : {f : ℕ → S} {z : S} (low high : ℕ) → ((k : ℕ) → low ≤ k → k < high → Below A (f k) z) → Below A (join_over A low high f) z
  join_below {f} {z} low high h = joined_below low (high - low) f z (λ k l m. h k l (omega arith))

  -- a meet lies below what one of its values lies below
  pub meet_from : {z : S} (low high : ℕ) (f : ℕ → S) (k : ℕ) → low ≤ k → k < high → Below A (f k) z → Below A (meet_over A low high f) z
  meet_from low high f k l h p = below_trans L (from_met low (high - low) f k l (omega arith)) p

  -- what lies below all the values lies below their meet
  pub below_meet : {f : ℕ → S} {z : S} (low high : ℕ) → ((k : ℕ) → low ≤ k → k < high → Below A z (f k)) → Below A z (meet_over A low high f)
  below_meet {f} {z} low high h = below_met low (high - low) f z (λ k l m. h k l (omega arith))

  -- a meet with a join over a range, case by case
  pub meet_over_join : (low high : ℕ) (f : ℕ → S) (w : S) → A.meet w (join_over A low high f) ≡ join_over A low high (λ k. A.meet w (f k))
  meet_over_join low high f w = meet_joined low (high - low) f w

  pub meet_join_below : {f : ℕ → S} {w z : S} (low high : ℕ) → ((k : ℕ) → low ≤ k → k < high → Below A (A.meet w (f k)) z) → Below A (A.meet w (join_over A low high f)) z
  meet_join_below {f} {w} low high h = below_trans L (below_same L (meet_over_join low high f w)) (join_below low high h)

  pub join_meet_below : {f : ℕ → S} {w z : S} (low high : ℕ) → ((k : ℕ) → low ≤ k → k < high → Below A (A.meet (f k) w) z) → Below A (A.meet (join_over A low high f) w) z
  join_meet_below low high h = turned L (meet_join_below low high (λ k l m. turned L (h k l m)))

  -- joins and meets rise with their values
  pub join_over_rises : {f g : ℕ → S} (low high : ℕ) → ((k : ℕ) → low ≤ k → k < high → Below A (f k) (g k)) → Below A (join_over A low high f) (join_over A low high g)
  join_over_rises low high h = join_below low high (λ k l m. join_into low high _ k l m (h k l m))

  pub meet_over_rises : {f g : ℕ → S} (low high : ℕ) → ((k : ℕ) → low ≤ k → k < high → Below A (f k) (g k)) → Below A (meet_over A low high f) (meet_over A low high g)
  meet_over_rises low high h = below_meet low high (λ k l m. meet_from low high _ k l m (h k l m))

  -- a join split at a point, and two joins exchanged
  pub join_over_split : (low mid high : ℕ) (f : ℕ → S) → low ≤ mid → mid ≤ high → join_over A low high f ≡ A.join (join_over A low mid f) (join_over A mid high f)
  join_over_split low mid high f l m = below_antisym L
      (join_below low high (λ k p q. ⊎_elim (λ s. into_left L _ (join_into low mid _ k p s (below_refl L _)))
      (λ s. into_right L _ (join_into mid high _ k s q (below_refl L _))) (cases_lt k mid)))
      (either_below L (join_below low mid (λ k p q. join_into low high _ k p (omega arith) (below_refl L _)))
      (join_below mid high (λ k p q. join_into low high _ k (omega arith) q (below_refl L _))))

  join_over_exchanged : (low high from to : ℕ) (f : ℕ → ℕ → S)
      → Below A (join_over A low high (λ i. join_over A from to (λ j. f i j))) (join_over A from to (λ j. join_over A low high (λ i. f i j)))
  join_over_exchanged low high from to f =
      join_below low high (λ i p q. join_below from to (λ j r s. join_into from to _ j r s (join_into low high _ i p q (below_refl L _))))

  pub join_over_exchange : (low high from to : ℕ) (f : ℕ → ℕ → S)
      → join_over A low high (λ i. join_over A from to (λ j. f i j)) ≡ join_over A from to (λ j. join_over A low high (λ i. f i j))
  join_over_exchange low high from to f =
      below_antisym L (join_over_exchanged low high from to f) (join_over_exchanged from to low high (λ j i. f i j))

  pub opposite_join_over : (low high : ℕ) (f : ℕ → S) → A.opposite (join_over A low high f) ≡ meet_over A low high (λ k. A.opposite (f k))
  opposite_join_over low high f = opposite_joined low (high - low) f
