-- No line spells two letters. Assumes nothing.
use Rattle.std.proofs.Common.{◌≡◌, ℕ, ◌/◌, ◌%◌, get_or, ap, arith}
use Rattle.letter.specs.declared.bits.Bits.{Bits}
use Rattle.letter.specs.Lines.{hex, four_digits}
use Rattle.std.proofs.lemmas.Bool.Decides.{nat_tests}

one_digit : (a b : ℕ) → hex a ≡ hex b → a ≡ b
one_digit a b e = grind (arith, nat_tests)

one_word : (v w : ℕ) → four_digits v ≡ four_digits w → v ≡ w
one_word v w e =
    let first : v / 4096 ≡ w / 4096 = one_digit _ _ (ap (λ xs. get_or xs 0 0) e) in
    let second : v / 256 % 16 ≡ w / 256 % 16 = one_digit _ _ (ap (λ xs. get_or xs 1 0) e) in
    let third : v / 16 % 16 ≡ w / 16 % 16 = one_digit _ _ (ap (λ xs. get_or xs 2 0) e) in
    let fourth : v % 16 ≡ w % 16 = one_digit _ _ (ap (λ xs. get_or xs 3 0) e) in
    omega arith

pub one_letter : (l m : Bits) → four_digits l.word ≡ four_digits m.word → l ≡ m
one_letter l m e = let of_word : ℕ → Bits = λ n. record { word = n } in ap of_word (one_word l.word m.word e)
