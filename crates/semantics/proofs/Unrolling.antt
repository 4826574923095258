-- The smallest and the largest set against their unrolling. Assumes nothing.
use Rattle.std.proofs.Common.{◌≡◌, ℕ, not, T, ◌⊎◌, sym, refl, subst, inl, inr, ⊎_elim}
use native.Mathlib.Decide.{ℕ_discrete}
use Rattle.rule.specs.declared.leaf.Kind.{Kind}
use Rattle.rule.specs.declared.leaf.Kind.TheVariants.{SomeStrong, SomeWeak, EveryStrong, EveryWeak}
use Rattle.semantics.specs.Endless.{Smallest, Largest, Lasting}
use Rattle.semantics.specs.Sanity.{Same, strong}
use Rattle.semantics.proofs.Told.{told, told_yes, yes_told, both_told, none_told, either_told, Stable}

-- U unrolls a larger set to a larger one
abbrev pub Rises : ((ℕ → Type 0) → ℕ → Type 0) → Type 1
Rises U = (P Q : ℕ → Type 0) → ((j : ℕ) → P j → Q j) → (i : ℕ) → U P i → U Q i

module _ (U : (ℕ → Type 0) → ℕ → Type 0) (rises : Rises U) where
  smallest_closed : (i : ℕ) → U (Smallest U) i → Smallest U i
  smallest_closed i u = λ P closed. closed i (rises _ _ (λ j s. s P closed) i u)

  largest_opens : (i : ℕ) → Stable (U (Largest U) i) → Largest U i → U (Largest U) i
  largest_opens i stable l = stable (λ n. l (λ P here out. n (rises _ _ (λ j t none. none P t out) i (out i here))))

  -- without i the smallest set would be closed, were i not to unroll
  smallest_opens : ((j : ℕ) → Dec (Smallest U j)) → (i : ℕ) → Stable (U (Smallest U) i) → Smallest U i → U (Smallest U) i
  smallest_opens D i stable s = stable (λ n. (told_yes (E i) (s (λ j. told (E j)) (λ k u. inside n k (rises _ _ (λ j t. (told_yes (E j) t).0) k u)))).1 refl)
    where
      E : (j : ℕ) → Dec (Smallest U j × (j ≡ i → ⊥))
      E j = both_told (D j) (none_told (ℕ_discrete j i))

      inside : (U (Smallest U) i → ⊥) → (k : ℕ) → U (Smallest U) k → T (told (E k))
      inside n k u = yes_told (E k) (smallest_closed k u, λ e. n (subst (U (Smallest U)) e u))

  -- with i the largest set unrolls, if i does
  largest_closed : ((j : ℕ) → Dec (Largest U j)) → ((j : ℕ) → Stable (U (Largest U) j)) → (i : ℕ) → U (Largest U) i → Largest U i
  largest_closed D stable i u = λ none. none (λ j. told (E j)) (yes_told (E i) (inr refl)) (λ k t. rises _ _ (λ j l. yes_told (E j) (inl l)) k (out k (told_yes (E k) t)))
    where
      E : (j : ℕ) → Dec (Largest U j ⊎ (j ≡ i))
      E j = either_told (D j) (ℕ_discrete j i)

      out : (k : ℕ) → Largest U k ⊎ (k ≡ i) → U (Largest U) k
      out k = ⊎_elim (largest_opens k (stable k)) (λ e. subst (U (Largest U)) (sym e) u)

  pub strong_closed : (k : Kind) → T (strong k) → (i : ℕ) → U (Lasting k U) i → Lasting k U i
  strong_closed SomeStrong t = smallest_closed
  strong_closed EveryStrong t = smallest_closed
  strong_closed SomeWeak t = absurd t
  strong_closed EveryWeak t = absurd t

  pub weak_opens : (k : Kind) → T (not (strong k)) → (i : ℕ) → Stable (U (Lasting k U) i) → Lasting k U i → U (Lasting k U) i
  weak_opens SomeStrong t = absurd t
  weak_opens EveryStrong t = absurd t
  weak_opens SomeWeak t = largest_opens
  weak_opens EveryWeak t = largest_opens

  pub told_unrolled : (k : Kind) → ((j : ℕ) → Stable (U (Lasting k U) j)) → ((j : ℕ) → Dec (Lasting k U j)) → (i : ℕ) → Same (Lasting k U i) (U (Lasting k U) i)
  told_unrolled SomeStrong stable D i = (smallest_opens D i (stable i), smallest_closed i)
  told_unrolled EveryStrong stable D i = (smallest_opens D i (stable i), smallest_closed i)
  told_unrolled SomeWeak stable D i = (largest_opens i (stable i), largest_closed D stable i)
  told_unrolled EveryWeak stable D i = (largest_opens i (stable i), largest_closed D stable i)
