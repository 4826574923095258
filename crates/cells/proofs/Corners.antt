-- The corners of one cell more: which cells they have, and which lie in which. Assumes nothing.
use Rattle.std.proofs.Common.{◌≡◌, ℕ, suc, ◌+◌, ◌-◌, ◌*◌, ◌/◌, ◌%◌, ◌^◌, ◌<◌, true, false, eqb, ◌⊎◌, sym, ap, ◌∙◌, inl, inr, ⊎_elim, arith}
use Rattle.cells.specs.Rows.{has, Inside}
use Rattle.std.proofs.lemmas.Nat.{shr_high}
use Rattle.std.proofs.lemmas.Nat.Bits.{bit_at_above, bit_at_cat_low, bit_at_ones}
use Rattle.std.proofs.lemmas.Bool.{both_ways, cases_lt}

-- a number below suc n lies below n or is n
pub up_to : (n k : ℕ) → k < suc n → (k < n) ⊎ (k ≡ n)
up_to n k h = ⊎_elim inl (λ l. inr (omega arith)) (cases_lt k n)

with_last : (n c : ℕ) → 2 ^ n + c ≡ 1 * 2 ^ n + c
with_last n c = omega arith

-- a corner of n cells lacks cell n; with 2 ^ n added it has it, and the others as before
pub has_not : (n c : ℕ) → c < 2 ^ n → has c n ≡ false
has_not n c h = ap (λ b. eqb b 1) (bit_at_above c n n h (omega arith))

pub has_last : (n c : ℕ) → c < 2 ^ n → has (2 ^ n + c) n ≡ true
has_last n c h = ap (λ q. eqb (q % 2) 1) (ap (λ x. x / 2 ^ n) (with_last n c) ∙ shr_high 1 n c h)

pub has_other : (n c k : ℕ) → k < n → has (2 ^ n + c) k ≡ has c k
has_other n c k h = ap (λ x. has x k) (with_last n c) ∙ ap (λ b. eqb b 1) (bit_at_cat_low 1 n c k h)

-- the corner of all n cells
pub has_all : (n last k : ℕ) → suc last ≡ 2 ^ n → k < n → has last k ≡ true
has_all n last k e h = ap (λ c. has c k) all ∙ ap (λ b. eqb b 1) (bit_at_ones n k h)
  where
    all : last ≡ 2 ^ n - 1
    all = omega arith

-- corners that lie in one another still do with one cell more, in both or in the second
pub inside_low : (n c d : ℕ) → c < 2 ^ n → Inside n c d → Inside (suc n) c d
inside_low n c d h i k l e = ⊎_elim (λ s. i k s e) (λ s. absurd (both_ways (has c k) (ap (has c) s ∙ has_not n c h) e)) (up_to n k l)

pub inside_high : (n c d : ℕ) → d < 2 ^ n → Inside n c d → Inside (suc n) (2 ^ n + c) (2 ^ n + d)
inside_high n c d h i k l e = ⊎_elim (λ s. has_other n d k s ∙ i k s (sym (has_other n c k s) ∙ e))
    (λ s. ap (has (2 ^ n + d)) s ∙ has_last n d h) (up_to n k l)

pub inside_more : (n c : ℕ) → c < 2 ^ n → Inside (suc n) c (2 ^ n + c)
inside_more n c h k l e = ⊎_elim (λ s. has_other n c k s ∙ e) (λ s. ap (has (2 ^ n + c)) s ∙ has_last n c h) (up_to n k l)
