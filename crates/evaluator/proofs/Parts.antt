-- What is made of equal parts is equal. Assumes nothing.
use Rattle.std.proofs.Common.{◌≡◌, ℕ, zero, suc, ◌-◌, ◌<◌, ◌≤◌, ◌⊎◌, cond, eqb, sym, refl, ap, ◌∙◌, subst, ap₂, ⊎_elim, arith}
use Rattle.rule.specs.declared.leaf.Kind.{Kind}
use Rattle.rule.specs.declared.leaf.Kind.TheVariants.{SomeStrong, SomeWeak, EveryStrong, EveryWeak}
use Rattle.scale.specs.Laws.{Algebra}
use Rattle.evaluator.specs.Parts.{either_match, chain_match, star_match, ending, either_open, chain_open, star_open, some_part, every_part, next_part}
use Rattle.semantics.specs.Positions.{paths, repeats}
use Rattle.semantics.proofs.Bounds.{join_over_same, meet_over_same}
use Rattle.std.proofs.lemmas.Bool.{cases_eq, eq-eqb, cond-true}

-- two grids, and two rows, that agree at the positions below the size
abbrev pub Alike : {S : Type 0} → ℕ → (ℕ → ℕ → S) → (ℕ → ℕ → S) → Type 0
Alike size m m' = (i j : ℕ) → i < size → j < size → m i j ≡ m' i j

abbrev pub Same : {S : Type 0} → ℕ → (ℕ → S) → (ℕ → S) → Type 0
Same size o o' = (i : ℕ) → i < size → o i ≡ o' i

module _ {S : Type 0} (A : Algebra S) where
  pub either_match_same : (size : ℕ) (a a' b b' : ℕ → ℕ → S) → Alike size a a' → Alike size b b' → Alike size (either_match A a b) (either_match A a' b')
  either_match_same size a a' b b' f s i j l m = ap₂ A.join (f i j l m) (s i j l m)

  pub chain_match_same : (size : ℕ) (a a' b b' : ℕ → ℕ → S) → Alike size a a' → Alike size b b' → Alike size (chain_match A a b) (chain_match A a' b')
  chain_match_same size a a' b b' f s i j l m =
      join_over_same A (suc i) j _ _ (λ k low high. ap₂ A.meet (f i k l (omega arith)) (s k j (omega arith) m))

  pub star_match_same : (size : ℕ) (a a' b b' : ℕ → ℕ → S) → Alike size a a' → Alike size b b' → Alike size (star_match A a b) (star_match A a' b')
  star_match_same size a a' b b' f s i j l m =
      join_over_same A i j _ _ (λ k low high. ap₂ A.meet (f i k l (omega arith)) (s k j (omega arith) m))

  pub ending_same : (n : ℕ) (o o' : ℕ → S) → Same n o o' → Same (suc n) (ending A n o) (ending A n o')
  ending_same n o o' h i l = ⊎_elim (λ e. cond-true _ _ _ (eq-eqb i n e) ∙ sym (cond-true _ _ _ (eq-eqb i n e)))
      (λ ne. ap (cond (eqb i n) A.best) (h i (omega arith))) (cases_eq i n)

  module _ (n : ℕ) (a a' : ℕ → ℕ → S) (f f' s s' : ℕ → S) (p : Alike (suc n) a a') (q : Same (suc n) f f') (r : Same (suc n) s s') where
    pub either_open_same : Same n (either_open A f s) (either_open A f' s')
    either_open_same i l = ap₂ A.join (q i (omega arith)) (r i (omega arith))

    pub chain_open_same : Same n (chain_open A n a f s) (chain_open A n a' f' s')
    chain_open_same i l =
        ap₂ A.join (q i (omega arith)) (join_over_same A (suc i) (suc n) _ _ (λ k low high. ap₂ A.meet (p i k (omega arith) high) (r k high)))

    pub star_open_same : Same n (star_open A n a f s) (star_open A n a' f' s')
    star_open_same i l = join_over_same A i (suc n) _ _ (λ k low high. ap₂ A.meet (p i k (omega arith) high) (ap₂ A.join (q k high) (r k high)))

  paths_same : (bound size : ℕ) (m m' : ℕ → ℕ → S) → Alike size m m' → Alike size (paths A bound m) (paths A bound m')
  unfolding paths
  paths_same zero size m m' h i j l n = refl
  paths_same (suc bound) size m m' h i j l n = ap (cond (eqb i j) A.best)
      (join_over_same A (suc i) (suc j) _ _ (λ k low high. ap₂ A.meet (h i k l (omega arith)) (paths_same bound size m m' h k j (omega arith) n)))

  pub repeats_same : (size : ℕ) (m m' : ℕ → ℕ → S) → Alike size m m' → Alike size (repeats A m) (repeats A m')
  repeats_same size m m' h i j l n = paths_same (j - i) size m m' h i j l n

  module _ (n : ℕ) (m m' : ℕ → ℕ → S) (o o' f f' : ℕ → S) (mark : S) (i : ℕ) (l : i < n)
      (p : (j : ℕ) → suc i ≤ j → j < suc n → m i j ≡ m' i j) (q : o i ≡ o' i) (r : (j : ℕ) → suc i ≤ j → j < n → f j ≡ f' j) where
    some_same : some_part A n m o f mark i ≡ some_part A n m' o' f' mark i
    some_same = ap₂ A.join (ap₂ A.join (join_over_same A (suc i) n _ _ (λ k low high. ap₂ A.meet (p k low (omega arith)) (r k low high)))
        (ap (λ x. A.meet x mark) (p n l (omega arith)))) (ap (λ x. A.meet x mark) q)

    every_same : every_part A n m o f mark i ≡ every_part A n m' o' f' mark i
    every_same = ap₂ A.meet (ap₂ A.meet (meet_over_same A (suc i) n _ _ (λ k low high. ap₂ (λ x y. A.join (A.opposite x) y) (p k low (omega arith)) (r k low high)))
        (ap (λ x. A.join (A.opposite x) mark) (p n l (omega arith)))) (ap (λ x. A.join (A.opposite x) mark) q)

    pub next_part_same : (kind : Kind) → next_part A kind n m o f mark i ≡ next_part A kind n m' o' f' mark i
    next_part_same SomeStrong = some_same
    next_part_same SomeWeak = some_same
    next_part_same EveryStrong = every_same
    next_part_same EveryWeak = every_same

  -- what the next of a kind is, told which kinds it may be
  module _ (n : ℕ) (m : ℕ → ℕ → S) (o after : ℕ → S) (mark : S) (i : ℕ) (kind : Kind) (x : S) where
    pub some_kind : (kind ≡ SomeStrong) ⊎ (kind ≡ SomeWeak) → x ≡ some_part A n m o after mark i → x ≡ next_part A kind n m o after mark i
    some_kind is h = let P = λ (k : Kind). x ≡ next_part A k n m o after mark i in ⊎_elim (λ e. subst P (sym e) h) (λ e. subst P (sym e) h) is

    pub every_kind : (kind ≡ EveryStrong) ⊎ (kind ≡ EveryWeak) → x ≡ every_part A n m o after mark i → x ≡ next_part A kind n m o after mark i
    every_kind is h = let P = λ (k : Kind). x ≡ next_part A k n m o after mark i in ⊎_elim (λ e. subst P (sym e) h) (λ e. subst P (sym e) h) is
