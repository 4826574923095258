-- A segment on a log and on a longer one: what it reads within the log is the same, and what ends past the log's end
-- was open there. Assumes nothing.
use Rattle.std.proofs.Common.{◌≡◌, ℕ, zero, suc, ◌-◌, ◌<◌, ◌≤◌, cond, eqb, sym, refl, ap, ◌∙◌, ap₂, ⊎_elim, arith}
use Rattle.rule.specs.declared.leaf.Test.{Test}
use Rattle.rule.specs.Tree.{Segment, single, either, chain, star}
use Rattle.scale.specs.Laws.{Algebra, Lawful, Below}
use Rattle.scale.proofs.Lattice.{below_refl, below_same, below_trans, worst_below, below_best, either_below, into_left, into_right, from_first, join_rises, meet_rises}
use Rattle.semantics.specs.Positions.{paths, repeats, matches, open_at}
use Rattle.semantics.proofs.Bounds.{join_over_same, repeated}
use Rattle.semantics.proofs.Ranges.{join_into, join_below}
use Rattle.semantics.proofs.Segments.{open_end, open_either, open_chain, open_star, open_star_into, open_star_now, open_star_step}
use Rattle.std.proofs.lemmas.Bool.{cases_eq, cases_lt, ne_eqb, cond-false}

-- from the log's last position back to the first
pub backward : (n : ℕ) (P : ℕ → Type 0) → ((i : ℕ) → i < n → ((j : ℕ) → i < j → j < n → P j) → P i) → (i : ℕ) → i < n → P i
backward n P step i l = go (n - i) i l (omega arith)
  where
    go : (b i : ℕ) → i < n → n - i ≤ b → P i
    go zero i l p = absurd (omega arith)
    go (suc b) i l p = step i l (λ j q r. go b j r (omega arith))

module _ {S : Type 0} (A : Algebra S) (n : ℕ) where
  paths_same : (b : ℕ) (m o : ℕ → ℕ → S) → ((i j : ℕ) → j ≤ n → m i j ≡ o i j) → (i j : ℕ) → j ≤ n → paths A b m i j ≡ paths A b o i j
  unfolding paths
  paths_same zero m o h i j l = refl
  paths_same (suc b) m o h i j l = ap (cond (eqb i j) A.best)
      (join_over_same A (suc i) (suc j) _ _ (λ k p q. ap₂ A.meet (h i k (omega arith)) (paths_same b m o h k j l)))

  -- two ways to value the tests that agree on the first n letters
  module _ (v w : Test → ℕ → S) (agree : (t : Test) (i : ℕ) → i < n → v t i ≡ w t i) where
    pub matches_same : (a : Segment) (i j : ℕ) → j ≤ n → matches A v a i j ≡ matches A w a i j
    unfolding matches
    matches_same (single t) i j l = ⊎_elim (λ e. ap (λ x. cond (eqb j (suc i)) x A.worst) (agree t i (omega arith)))
        (λ ne. cond-false _ _ _ (ne_eqb j (suc i) ne) ∙ sym (cond-false _ _ _ (ne_eqb j (suc i) ne))) (cases_eq j (suc i))
    matches_same (either a b) i j l = ap₂ A.join (matches_same a i j l) (matches_same b i j l)
    matches_same (chain a b) i j l = join_over_same A (suc i) j _ _
        (λ k p q. ap₂ A.meet (matches_same a i k (omega arith)) (matches_same b k j l))
    matches_same (star a b) i j l = join_over_same A i j _ _
        (λ k p q. ap₂ A.meet (paths_same (k - i) _ _ (matches_same a) i k (omega arith)) (matches_same b k j l))

    pub open_same : (a : Segment) (i : ℕ) → open_at A v n a i ≡ open_at A w n a i
    unfolding open_at
    open_same (single t) i = refl
    open_same (either a b) i = ap (cond (eqb i n) A.best) (ap₂ A.join (open_same a i) (open_same b i))
    open_same (chain a b) i = ap (cond (eqb i n) A.best) (ap₂ A.join (open_same a i)
        (join_over_same A (suc i) (suc n) _ _ (λ j p q. ap₂ A.meet (matches_same a i j (omega arith)) (open_same b j))))
    open_same (star a b) i = ap (cond (eqb i n) A.best) (join_over_same A i (suc n) _ _
        (λ j p q. ap₂ A.meet (paths_same (j - i) _ _ (matches_same a) i j (omega arith)) (ap₂ A.join (open_same a j) (open_same b j))))

module _ {S : Type 0} {A : Algebra S} (L : Lawful A) (value : Test → ℕ → S) where
  module _ (n : ℕ) where
    open_here : {x : S} (a : Segment) (i : ℕ) → i ≡ n → Below A x (open_at A value n a i)
    open_here a i e = below_trans L (below_best L _) (below_same L (sym (ap (open_at A value n a) e ∙ open_end L value n a)))

    -- steps that lead past the log's end, if each step that does was open
    steps_past : (a b : Segment) → ((i j : ℕ) → i ≤ n → n < j → Below A (matches A value a i j) (open_at A value n a i))
        → (bound i j : ℕ) → j - i ≤ bound → i ≤ n → n < j → Below A (repeats A (matches A value a) i j) (open_at A value n (star a b) i)
    steps_past a b h zero i j p l g = absurd (omega arith)
    steps_past a b h (suc bound) i j p l g = ⊎_elim (open_here (star a b) i)
        (λ ne. below_trans L (below_same L ((repeated A (matches A value a)).more i j (omega arith)))
        (join_below L (suc i) (suc j) (λ k q r. ⊎_elim
        (λ s. from_first L _ (open_star_now L value n a b i (omega arith) (into_left L _ (h i k l s))))
        (λ s. below_trans L (meet_rises L (below_refl L _) (steps_past a b h bound k j (omega arith) s g)) (open_star_step L value n a b i k q))
        (cases_lt n k)))) (cases_eq i n)

    -- a match that ends past the log's end was open there
    pub match_past : (a : Segment) (i j : ℕ) → i ≤ n → n < j → Below A (matches A value a i j) (open_at A value n a i)
    unfolding matches
    match_past (single t) i j l g = ⊎_elim (open_here (single t) i)
        (λ ne. below_trans L (below_same L (cond-false _ _ _ (ne_eqb j (suc i) (λ e. omega arith)))) (worst_below L _)) (cases_eq i n)
    match_past (either a b) i j l g = below_trans L (join_rises L (match_past a i j l g) (match_past b i j l g)) (below_same L (sym (open_either L value n a b i)))
    match_past (chain a b) i j l g = below_trans L
        (join_below L (suc i) j (λ k p q. ⊎_elim (λ s. into_left L _ (from_first L _ (match_past a i k l s)))
        (λ s. into_right L _ (join_into L (suc i) (suc n) _ k p (omega arith) (meet_rises L (below_refl L _) (match_past b k j s g)))) (cases_lt n k)))
        (below_same L (sym (open_chain L value n a b i)))
    match_past (star a b) i j l g = join_below L i j (λ k p q. ⊎_elim
        (λ s. from_first L _ (steps_past a b (match_past a) (k - i) i k (omega arith) l s))
        (λ s. below_trans L (meet_rises L (below_refl L _) (into_right L _ (match_past b k j s g))) (open_star_into L value n a b i k p (omega arith)))
        (cases_lt n k))

  -- what is open at a later end was open at the earlier one
  module _ (n m : ℕ) (later : n ≤ m) where
    pub open_falls : (a : Segment) (i : ℕ) → i ≤ n → Below A (open_at A value m a i) (open_at A value n a i)
    unfolding open_at
    open_falls (single t) i l = ⊎_elim (open_here n (single t) i)
        (λ ne. below_trans L (below_same L (cond-false _ _ _ (ne_eqb i m (λ e. omega arith)))) (worst_below L _)) (cases_eq i n)
    open_falls (either a b) i l = below_trans L (below_same L (open_either L value m a b i))
        (below_trans L (join_rises L (open_falls a i l) (open_falls b i l)) (below_same L (sym (open_either L value n a b i))))
    open_falls (chain a b) i l = below_trans L (below_same L (open_chain L value m a b i)) (below_trans L
        (either_below L (into_left L _ (open_falls a i l)) (join_below L (suc i) (suc m) (λ j p q. ⊎_elim
        (λ s. into_left L _ (from_first L _ (match_past n a i j l s)))
        (λ s. into_right L _ (join_into L (suc i) (suc n) _ j p (omega arith) (meet_rises L (below_refl L _) (open_falls b j s)))) (cases_lt n j))))
        (below_same L (sym (open_chain L value n a b i))))
    open_falls (star a b) i l = below_trans L (below_same L (open_star L value m a b i))
        (join_below L i (suc m) (λ j p q. ⊎_elim
        (λ s. from_first L _ (steps_past n a b (match_past n a) (j - i) i j (omega arith) l s))
        (λ s. below_trans L (meet_rises L (below_refl L _) (join_rises L (open_falls a j s) (open_falls b j s)))
        (open_star_into L value n a b i j p (omega arith))) (cases_lt n j)))
