-- The lowest number that passes a test, step by step, and a fit channel's value. Assumes nothing.
use Rattle.std.proofs.Common.{◌≡◌, ◌≢◌, ℕ, zero, suc, ◌+◌, ◌<◌, ◌≤◌, Bool, true, false, cond, ℤ, pos, negsuc, ◌≤ℤ◌, Option, Some, None, MatchOption, refl, sym, ap, ◌∙◌, arith, w16, to_z, of_z}
use Rattle.letter.specs.declared.measured.Measured.{Measured}
use Rattle.letter.specs.Measured.{outside, reading, limit, channel_unfit, lowest, over_by, measured_heard}
use Rattle.scale.specs.declared.margin.Margin.{Margin}
use Rattle.std.proofs.lemmas.Int.{ints, to_z-of_z}
use Rattle.std.proofs.lemmas.Bool.{lt-ltb, ltb-false, or_parts, false≢true}

-- the first number that passes, where none before it does
pub lowest_first : (passes : ℕ → Bool) (n c : ℕ) (r : Option ℕ)
    → MatchOption r ((k : ℕ) → c ≤ k → k < c + n → passes k ≡ false)
    (λ i. (c ≤ i) × (i < c + n) × (passes i ≡ true) × ((k : ℕ) → c ≤ k → k < i → passes k ≡ false))
    → r ≡ lowest passes n c
unfolding lowest
lowest_first passes zero c None h = refl
lowest_first passes zero c (Some i) (from, to, it, before) = absurd (omega arith)
lowest_first passes (suc n) c None h =
    rw (h c (omega arith) (omega arith)) (lowest_first passes n (c + 1) None (λ k p q. h k (omega arith) (omega arith)))
lowest_first passes (suc n) c (Some i) (from, to, it, before) =
    go (passes c) refl (λ more. lowest_first passes n (c + 1) (Some i) (more, omega arith, it, λ k p q. before k (omega arith) q))
  where
    go : (b : Bool) → passes c ≡ b → (c + 1 ≤ i → Some i ≡ lowest passes n (c + 1)) → Some i ≡ cond b (Some c) (lowest passes n (c + 1))
    go true e rest =
        let first : ¬ (c < i) = λ less. false≢true (sym (before c (omega arith) less) ∙ e) in
        ap Some (omega (arith, first))
    go false e rest =
        let other : c ≢ i = λ same. false≢true (sym e ∙ (ap passes same ∙ it)) in
        rest (omega (arith, other))

-- a number in range fits sixteen bits
in_range : (z : ℤ) → outside z ≡ false → to_z w16 (of_z w16 z) ≡ z
in_range (pos n) h = let few = ltb-false _ _ h in to_z-of_z w16 (pos n) (record { sfits = omega arith })
in_range (negsuc n) h = let few = ltb-false _ _ h in to_z-of_z w16 (negsuc n) (record { sfits = omega arith })

-- the range by its two ends
pub ends : (z : ℤ) → outside z ≡ false → (negsuc 8190 ≤ℤ z) × (z ≤ℤ pos 8191)
ends (pos n) h = let few = ltb-false _ _ h in (grind (arith, ints), grind (arith, ints))
ends (negsuc n) h = let few = ltb-false _ _ h in (grind (arith, ints), grind (arith, ints))

-- a fit channel's value
pub fit_value : (l : Measured) (c : ℕ) (x : Margin) → c < 16 → channel_unfit l c ≡ false
    → x ≡ over_by (to_z w16 (of_z w16 (reading l c))) (to_z w16 (of_z w16 (limit l c))) → x ≡ (measured_heard l).value c
fit_value l c x few fit e =
    let parts = or_parts (outside (reading l c)) (outside (limit l c)) fit in
    rw (lt-ltb c 16 few, fit, ← in_range (reading l c) parts.0, ← in_range (limit l c) parts.1) e
