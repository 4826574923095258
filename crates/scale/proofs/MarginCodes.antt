-- Taking a margin back from its two bytes. Assumes nothing.
use Rattle.std.proofs.Common.{◌≡◌, ℕ, ◌+◌, ◌*◌, ◌/◌, ◌%◌, ◌<◌, ◌≤◌, List, [], ◌∷◌, length, get_or, take, slice_index, Ok, Err, Result, ℤ, pos, negsuc, refl, sym, ap, ◌∙◌, arith, of_z, to_z, w16, unsigned_abs}
use Rattle.scale.specs.Codes.{Taken}
use Rattle.scale.specs.declared.fault.CodeFault.{CodeFault}
use Rattle.scale.specs.declared.fault.CodeFault.TheVariants.{Short, NoCode}
use Rattle.scale.specs.declared.margin.Margin.{Margin}
use Rattle.scale.specs.MarginCode.{sixteen_bits, margin_coding}
use Rattle.scale.specs.Margins.{IsMarginNumbered}
use Rattle.std.proofs.lemmas.Int.{ints, of_z-to_z}

-- two bytes read as a number of sixteen bits, and that number's two's complement
bits_of : (n : ℕ) (z : ℤ) → n < 65536 → z ≡ to_z w16 n → sixteen_bits z ≡ n
bits_of n (pos k) p e = grind (arith, ints)
bits_of n (negsuc k) p e = grind (arith, ints)

of_bits : (n : ℕ) (z : ℤ) → unsigned_abs z ≤ 32767 → sixteen_bits z ≡ n → z ≡ to_z w16 n
of_bits n (pos k) p e = grind (arith, ints)
of_bits n (negsuc k) p e = grind (arith, ints)

-- a number that was read from two bytes, and is passed on
passed_on : (code : List ℕ) (x y : ℕ) (z : ℤ) → code ≡ x ∷ y ∷ [] → x < 256 → y < 256 → z ≡ to_z w16 (slice_index code 0 * 256 + slice_index code 1)
    → to_z w16 (of_z w16 z) ≡ to_z w16 (x * 256 + y)
passed_on code x y z w p q is =
    ap (λ u. to_z w16 (of_z w16 u)) (is ∙ ap (λ l. to_z w16 (slice_index l 0 * 256 + slice_index l 1)) w) ∙ ap (to_z w16) (of_z-to_z w16 (x * 256 + y) (omega arith))

-- the margin whose number two bytes are, or that they are no margin's code
pub taken : (bytes code : List ℕ) (z : ℤ) (r : Result Margin CodeFault) → ((i : ℕ) → get_or bytes i 0 < 256) → 2 ≤ length bytes → code ≡ take 2 bytes
    → z ≡ to_z w16 (slice_index code 0 * 256 + slice_index code 1) → IsMarginNumbered (to_z w16 (of_z w16 z)) r → Taken margin_coding bytes r
taken [] code z r small long e is found = absurd (omega (arith, long))
taken (x ∷ []) code z r small long e is found = absurd (omega (arith, long))
taken (x ∷ y ∷ rest) code z (Ok m) small long e is found =
    let p : x < 256 = small 0 in
    let q : y < 256 = small 1 in
    let b : sixteen_bits m.number ≡ x * 256 + y = bits_of _ _ (omega arith) (found ∙ passed_on code x y z e p q is) in
    let high : x ≡ sixteen_bits m.number / 256 = omega arith in
    let low : y ≡ sixteen_bits m.number % 256 = omega arith in
    rw (← high, ← low) refl
taken (x ∷ y ∷ rest) code z (Err NoCode) small long e is none = (
  long,
  λ m f.
      let high : x ≡ sixteen_bits m.number / 256 = cc in
      let low : y ≡ sixteen_bits m.number % 256 = cc in
      none m (of_bits (x * 256 + y) m.number m.within (omega arith) ∙ sym (passed_on code x y z e (small 0) (small 1) is)),
)
taken (x ∷ y ∷ rest) code z (Err Short) small long e is none = absurd none
