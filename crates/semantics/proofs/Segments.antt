-- What a segment with a continuation is worth: the five equations. Assumes nothing.
use Rattle.std.proofs.Common.{◌≡◌, ℕ, suc, ◌<◌, ◌≤◌, cond, eqb, sym, refl, ap, ◌∙◌, ap₂, ⊎_elim, arith}
use Rattle.rule.specs.declared.leaf.Test.{Test}
use Rattle.rule.specs.Tree.{Segment, single, either, chain, star}
use Rattle.scale.specs.Laws.{Algebra, Lawful, Below}
use Rattle.scale.proofs.Lattice.{best_join, worst_meet, opposite_meet, below_refl, below_same, below_trans, below_antisym, worst_below, below_best, below_left, below_right, either_below, into_left, into_right, below_both, from_second, meet_rises, turned, regrouped_left, regrouped_right, either_meet_below, meet_either_below}
use Rattle.semantics.specs.Folds.{join_over}
use Rattle.semantics.specs.Positions.{repeats, matches, open_at, some_match, every_match}
use Rattle.semantics.specs.Equations.{Onward, onward}
use Rattle.semantics.proofs.Bounds.{join_over_none, meet_over_same, repeated}
use Rattle.semantics.proofs.Ranges.{join_into, join_below, meet_join_below, join_meet_below, opposite_join_over}
use Rattle.std.proofs.lemmas.Bool.{cases_eq, eq-eqb, ne_eqb, cond-true, cond-false}

module _ {S : Type 0} {A : Algebra S} (L : Lawful A) (value : Test → ℕ → S) (n : ℕ) where
  -- every segment is open where it begins at the log's end
  pub open_end : (a : Segment) → open_at A value n a n ≡ A.best
  unfolding open_at
  open_end (single t) = cond-true _ _ _ (eq-eqb n n refl)
  open_end (either a b) = cond-true _ _ _ (eq-eqb n n refl)
  open_end (chain a b) = cond-true _ _ _ (eq-eqb n n refl)
  open_end (star a b) = cond-true _ _ _ (eq-eqb n n refl)

  no_case : (i : ℕ) (x : S) → (i ≡ n → x ≡ A.best) → cond (eqb i n) A.best x ≡ x
  no_case i x h = ⊎_elim (λ e. cond-true _ _ _ (eq-eqb i n e) ∙ sym (h e)) (λ ne. cond-false _ _ _ (ne_eqb i n ne)) (cases_eq i n)

  best_first : (a : Segment) (i : ℕ) (x : S) → i ≡ n → A.join (open_at A value n a i) x ≡ A.best
  best_first a i x e = ap (λ y. A.join y x) (ap (open_at A value n a) e ∙ open_end a) ∙ best_join L x

  -- the rules of openness hold at the log's end too
  pub open_either : (a b : Segment) (i : ℕ) → open_at A value n (either a b) i ≡ A.join (open_at A value n a i) (open_at A value n b i)
  unfolding open_at
  open_either a b i = no_case i _ (best_first a i _)

  pub open_chain : (a b : Segment) (i : ℕ) → open_at A value n (chain a b) i
      ≡ A.join (open_at A value n a i) (join_over A (suc i) (suc n) (λ j. A.meet (matches A value a i j) (open_at A value n b j)))
  unfolding open_at
  open_chain a b i = no_case i _ (best_first a i _)

  pub open_star : (a b : Segment) (i : ℕ) → open_at A value n (star a b) i
      ≡ join_over A i (suc n) (λ j. A.meet (repeats A (matches A value a) i j) (A.join (open_at A value n a j) (open_at A value n b j)))
  unfolding open_at
  open_star a b i = no_case i _ (λ e. below_antisym L (below_best L _) (join_into L i (suc n) _ i (omega arith) (omega arith)
      (below_both L (below_same L (sym ((repeated A (matches A value a)).none i))) (below_same L (sym (best_first a i _ e))))))

  -- into a segment with a continuation, and out of it
  module _ (a : Segment) (then : ℕ → S) (i : ℕ) where
    by_match : {x : S} (j : ℕ) → i < j → j < suc n → Below A x (A.meet (matches A value a i j) (then j)) → Below A x (onward A value n a then i)
    by_match j l h p = into_left L _ (join_into L (suc i) (suc n) _ j l h p)

    by_open : {x : S} → Below A x (A.meet (open_at A value n a i) (then n)) → Below A x (onward A value n a then i)
    by_open p = into_right L _ p

    onward_below : {z : S} → ((j : ℕ) → i < j → j < suc n → Below A (A.meet (matches A value a i j) (then j)) z)
        → Below A (A.meet (open_at A value n a i) (then n)) z → Below A (onward A value n a then i) z
    onward_below h o = either_below L (join_below L (suc i) (suc n) h) o

    meet_onward_below : {w z : S} → ((j : ℕ) → i < j → j < suc n → Below A (A.meet w (A.meet (matches A value a i j) (then j))) z)
        → Below A (A.meet w (A.meet (open_at A value n a i) (then n))) z → Below A (A.meet w (onward A value n a then i)) z
    meet_onward_below h o = meet_either_below L (meet_join_below L (suc i) (suc n) h) o

  pub onward_end : (a : Segment) (then : ℕ → S) → onward A value n a then n ≡ then n
  onward_end a then = ap₂ A.join (join_over_none A (suc n) (suc n) _ (omega arith)) (ap (λ x. A.meet x (then n)) (open_end a))
      ∙ (L.worst_join _ ∙ L.best_meet (then n))

  pub onward_test : (t : Test) (then : ℕ → S) (i : ℕ) → i < n → onward A value n (single t) then i ≡ A.meet (value t i) (then (suc i))
  unfolding matches open_at
  onward_test t then i l = below_antisym L
      (onward_below (single t) then i
      (λ j p q. ⊎_elim (λ e. meet_rises L (below_same L (cond-true _ _ _ (eq-eqb j (suc i) e))) (below_same L (ap then e)))
      (λ ne. worst_first (cond-false _ _ _ (ne_eqb j (suc i) ne))) (cases_eq j (suc i)))
      (worst_first (cond-false _ _ _ (ne_eqb i n (λ e. omega arith)))))
      (by_match (single t) then i (suc i) (omega arith) (omega arith)
      (meet_rises L (below_same L (sym (cond-true _ _ _ (eq-eqb (suc i) (suc i) refl)))) (below_refl L _)))
    where
      worst_first : {x y z : S} → x ≡ A.worst → Below A (A.meet x y) z
      worst_first {x} {y} {z} e = below_trans L (below_same L (ap (λ u. A.meet u y) e ∙ worst_meet L y)) (worst_below L z)

  pub onward_either : (a b : Segment) (then : ℕ → S) (i : ℕ)
      → onward A value n (either a b) then i ≡ A.join (onward A value n a then i) (onward A value n b then i)
  unfolding matches
  onward_either a b then i = below_antisym L
      (onward_below (either a b) then i
      (λ j p q. either_meet_below L (into_left L _ (by_match a then i j p q (below_refl L _))) (into_right L _ (by_match b then i j p q (below_refl L _))))
      (below_trans L (meet_rises L (below_same L (open_either a b i)) (below_refl L _))
      (either_meet_below L (into_left L _ (by_open a then i (below_refl L _))) (into_right L _ (by_open b then i (below_refl L _))))))
      (either_below L
      (onward_below a then i (λ j p q. by_match (either a b) then i j p q (meet_rises L (below_left L _ _) (below_refl L _)))
      (by_open (either a b) then i (meet_rises L (below_trans L (below_left L _ _) (below_same L (sym (open_either a b i)))) (below_refl L _))))
      (onward_below b then i (λ j p q. by_match (either a b) then i j p q (meet_rises L (below_right L _ _) (below_refl L _)))
      (by_open (either a b) then i (meet_rises L (below_trans L (below_right L _ _) (below_same L (sym (open_either a b i)))) (below_refl L _)))))

  module _ (a b : Segment) where
    chain_into : (i k j : ℕ) → i < k → k < j → Below A (A.meet (matches A value a i k) (matches A value b k j)) (matches A value (chain a b) i j)
    unfolding matches
    chain_into i k j p q = join_into L (suc i) j _ k p q (below_refl L _)

    chain_below : {w z : S} (i j : ℕ) → ((k : ℕ) → i < k → k < j → Below A (A.meet (A.meet (matches A value a i k) (matches A value b k j)) w) z)
        → Below A (A.meet (matches A value (chain a b) i j) w) z
    unfolding matches
    chain_below i j h = join_meet_below L (suc i) j h

    pub onward_chain : (then : ℕ → S) (i : ℕ) → onward A value n (chain a b) then i ≡ onward A value n a (onward A value n b then) i
    onward_chain then i = below_antisym L
        (onward_below (chain a b) then i
        (λ j p q. chain_below i j (λ k r s. by_match a after i k r (omega arith)
        (regrouped_right L (meet_rises L (below_refl L _) (by_match b then k j s q (below_refl L _))))))
        (below_trans L (meet_rises L (below_same L (open_chain a b i)) (below_refl L _)) (either_meet_below L
        (by_open a after i (meet_rises L (below_refl L _) (below_same L (sym (onward_end b then)))))
        (join_meet_below L (suc i) (suc n) (λ j p q. by_match a after i j p q
        (regrouped_right L (meet_rises L (below_refl L _) (by_open b then j (below_refl L _)))))))))
        (onward_below a after i
        (λ k p q. meet_onward_below b then k
        (λ j r s. by_match (chain a b) then i j (omega arith) s (regrouped_left L (meet_rises L (chain_into i k j p r) (below_refl L _))))
        (by_open (chain a b) then i (regrouped_left L (meet_rises L (below_trans L
        (into_right L _ (join_into L (suc i) (suc n) (λ j. A.meet (matches A value a i j) (open_at A value n b j)) k p q (below_refl L _)))
        (below_same L (sym (open_chain a b i)))) (below_refl L _)))))
        (by_open (chain a b) then i (meet_rises L (below_trans L (below_left L _ _) (below_same L (sym (open_chain a b i)))) (below_same L (onward_end b then)))))
      where
        after : ℕ → S
        after = onward A value n b then

    -- a first step, then the others
    first_step : (i k l : ℕ) → i < k → k ≤ l
        → Below A (A.meet (matches A value a i k) (repeats A (matches A value a) k l)) (repeats A (matches A value a) i l)
    first_step i k l p q = below_trans L
        (join_into L (suc i) (suc l) (λ k. A.meet (matches A value a i k) (repeats A (matches A value a) k l)) k p (omega arith) (below_refl L _))
        (below_same L (sym ((repeated A (matches A value a)).more i l (omega arith))))

    by_steps : {w z : S} (i k : ℕ) → i ≤ k → (k ≡ i → Below A w z)
        → ((l : ℕ) → i < l → l ≤ k → Below A (A.meet (matches A value a i l) (A.meet (repeats A (matches A value a) l k) w)) z)
        → Below A (A.meet (repeats A (matches A value a) i k) w) z
    by_steps i k p here on = ⊎_elim (λ e. from_second L _ (here e))
        (λ ne. below_trans L (meet_rises L (below_same L ((repeated A (matches A value a)).more i k (omega arith))) (below_refl L _))
        (join_meet_below L (suc i) (suc k) (λ l r s. regrouped_right L (on l r (omega arith))))) (cases_eq k i)

    no_steps : {x y : S} (i : ℕ) → Below A x y → Below A x (A.meet (repeats A (matches A value a) i i) y)
    no_steps i p = below_both L (below_trans L (below_best L _) (below_same L (sym ((repeated A (matches A value a)).none i)))) p

    star_into : (i k j : ℕ) → i ≤ k → k < j
        → Below A (A.meet (repeats A (matches A value a) i k) (matches A value b k j)) (matches A value (star a b) i j)
    unfolding matches
    star_into i k j p q = join_into L i j _ k p q (below_refl L _)

    star_below : {w z : S} (i j : ℕ) → ((k : ℕ) → i ≤ k → k < j → Below A (A.meet w (A.meet (repeats A (matches A value a) i k) (matches A value b k j))) z)
        → Below A (A.meet w (matches A value (star a b) i j)) z
    unfolding matches
    star_below i j h = meet_join_below L i j h

    pub open_star_into : (i j : ℕ) → i ≤ j → j < suc n
        → Below A (A.meet (repeats A (matches A value a) i j) (A.join (open_at A value n a j) (open_at A value n b j))) (open_at A value n (star a b) i)
    open_star_into i j p q = below_trans L
        (join_into L i (suc n) (λ j. A.meet (repeats A (matches A value a) i j) (A.join (open_at A value n a j) (open_at A value n b j))) j p q (below_refl L _))
        (below_same L (sym (open_star a b i)))

    open_star_below : {w z : S} (i : ℕ)
        → ((j : ℕ) → i ≤ j → j < suc n → Below A (A.meet w (A.meet (repeats A (matches A value a) i j) (A.join (open_at A value n a j) (open_at A value n b j)))) z)
        → Below A (A.meet w (open_at A value n (star a b) i)) z
    open_star_below i h = below_trans L (meet_rises L (below_refl L _) (below_same L (open_star a b i))) (meet_join_below L i (suc n) h)

    -- what begins with no step at all
    star_now : {x : S} (i j : ℕ) → i < j → Below A x (matches A value b i j) → Below A x (matches A value (star a b) i j)
    star_now i j l p = below_trans L (no_steps i p) (star_into i i j (omega arith) l)

    pub open_star_now : {x : S} (i : ℕ) → i < n → Below A x (A.join (open_at A value n a i) (open_at A value n b i)) → Below A x (open_at A value n (star a b) i)
    open_star_now i l p = below_trans L (no_steps i p) (open_star_into i i (omega arith) (omega arith))

    -- what begins with a step
    star_step : (i k j : ℕ) → i < k → Below A (A.meet (matches A value a i k) (matches A value (star a b) k j)) (matches A value (star a b) i j)
    star_step i k j p = star_below k j (λ l q r. regrouped_left L
        (below_trans L (meet_rises L (first_step i k l p q) (below_refl L _)) (star_into i l j (omega arith) r)))

    pub open_star_step : (i k : ℕ) → i < k → Below A (A.meet (matches A value a i k) (open_at A value n (star a b) k)) (open_at A value n (star a b) i)
    open_star_step i k p = open_star_below k (λ j q r. regrouped_left L
        (below_trans L (meet_rises L (first_step i k j p q) (below_refl L _)) (open_star_into i j (omega arith) r)))

    module _ (then : ℕ → S) (i : ℕ) where
      star_unrolled : Below A (onward A value n (star a b) then i) (A.join (onward A value n b then i) (onward A value n a (onward A value n (star a b) then) i))
      star_unrolled = onward_below (star a b) then i
          (λ j p q. turned L (star_below i j (λ k r s. turned L (regrouped_right L (by_steps i k r
          (λ e. into_left L _ (by_match b then i j p q (meet_rises L (below_same L (ap (λ u. matches A value b u j) e)) (below_refl L _))))
          (λ l t u. into_right L _ (by_match a after i l t (omega arith) (meet_rises L (below_refl L _)
          (by_match (star a b) then l j (omega arith) q (regrouped_left L (meet_rises L (star_into l k j u s) (below_refl L _))))))))))))
          (turned L (open_star_below i (λ j r s. turned L (regrouped_right L (by_steps i j r
          (λ e. either_meet_below L
          (into_right L _ (by_open a after i (meet_rises L (below_same L (ap (open_at A value n a) e)) (below_same L (sym (onward_end (star a b) then))))))
          (into_left L _ (by_open b then i (meet_rises L (below_same L (ap (open_at A value n b) e)) (below_refl L _)))))
          (λ l t u. into_right L _ (by_match a after i l t (omega arith) (meet_rises L (below_refl L _)
          (by_open (star a b) then l (regrouped_left L (meet_rises L (open_star_into l j u s) (below_refl L _))))))))))))
        where
          after : ℕ → S
          after = onward A value n (star a b) then

      star_rolled : i < n → Below A (A.join (onward A value n b then i) (onward A value n a (onward A value n (star a b) then) i)) (onward A value n (star a b) then i)
      star_rolled h = either_below L
          (onward_below b then i
          (λ j p q. by_match (star a b) then i j p q (meet_rises L (star_now i j p (below_refl L _)) (below_refl L _)))
          (by_open (star a b) then i (meet_rises L (open_star_now i h (below_right L _ _)) (below_refl L _))))
          (onward_below a (onward A value n (star a b) then) i
          (λ k p q. meet_onward_below (star a b) then k
          (λ j r s. by_match (star a b) then i j (omega arith) s (regrouped_left L (meet_rises L (star_step i k j p) (below_refl L _))))
          (by_open (star a b) then i (regrouped_left L (meet_rises L (open_star_step i k p) (below_refl L _)))))
          (by_open (star a b) then i (meet_rises L (open_star_now i h (below_left L _ _)) (below_same L (onward_end (star a b) then)))))

      pub onward_star : i < n → onward A value n (star a b) then i
          ≡ A.join (onward A value n b then i) (onward A value n a (onward A value n (star a b) then) i)
      onward_star h = below_antisym L star_unrolled (star_rolled h)

  -- every match is no match that fails
  pub every_opposite : (a : Segment) (after : ℕ → S) (mark : S) (i : ℕ)
      → every_match A value n a after mark i ≡ A.opposite (some_match A value n a (λ j. A.opposite (after j)) (A.opposite mark) i)
  every_opposite a after mark i = sym (L.opposite_join _ _ ∙ ap₂ A.meet
      (opposite_join_over L (suc i) (suc n) _ ∙ meet_over_same A (suc i) (suc n) _ _ (λ j p q. one (matches A value a i j) (after j)))
      (one (open_at A value n a i) mark))
    where
      one : (x y : S) → A.opposite (A.meet x (A.opposite y)) ≡ A.join (A.opposite x) y
      one x y = opposite_meet L x (A.opposite y) ∙ ap (A.join (A.opposite x)) (L.opposite_twice y)

  pub onwards : (then : ℕ → S) → Onward A value n then
  onwards then = record {
    at_end = λ a. onward_end a then;
    by_test = λ t. onward_test t then;
    by_either = λ a b i l. onward_either a b then i;
    by_chain = λ a b i l. onward_chain a b then i;
    by_star = λ a b. onward_star a b then;
    by_opposite = λ a. every_opposite a then (then n);
  }
