-- What each digit that is allowed leaves to be read. Assumes nothing.
use Rattle.std.proofs.Common.{◌≡◌, ℕ, ◌+◌, ◌*◌, ◌/◌, ◌%◌, ◌≤◌, false, ◌&&◌, leb, [], ◌∷◌, Some, None, arith}
use Rattle.rule.specs.Machine.{tens, ones, opens, highest}
use Rattle.std.proofs.lemmas.Bool.Decides.{nat_tests}

pub tens_opens : (d : ℕ) → d ≤ 1 → opens tens (48 + d) ≡ Some (ones (highest d) ∷ [])
unfolding opens
tens_opens d few = grind (arith, nat_tests)

pub tens_only : (b : ℕ) → (leb 48 b && leb b 49) ≡ false → opens tens b ≡ None
unfolding opens
tens_only b out = grind (arith, nat_tests)

pub ones_opens : (most d : ℕ) → d ≤ most → opens (ones most) (48 + d) ≡ Some []
unfolding opens
ones_opens most d few = grind (arith, nat_tests)

pub ones_only : (most b : ℕ) → (leb 48 b && leb b (48 + most)) ≡ false → opens (ones most) b ≡ None
unfolding opens
ones_only most b out = rw out

pub tens_are : (d e : ℕ) → e ≤ 9 → (10 * d + e) / 10 ≡ d
tens_are d e few = omega arith

pub ones_are : (d e : ℕ) → e ≤ 9 → (10 * d + e) % 10 ≡ e
ones_are d e few = omega arith
