-- The margin scale has number 2; a margin's code is its number in two's complement, two bytes, most significant
-- first. Assumes nothing.
use Rattle.std.specs.Prelude.{ℕ, suc, ◌-◌, ◌/◌, ◌%◌, [], ◌∷◌, ℤ, pos, negsuc}
use Rattle.scale.specs.declared.margin.Margin.{Margin}
use Rattle.scale.specs.Codes.{Coding}

-- sixteen bits of two's complement: a negative number counts from 65,536 down
abbrev pub sixteen_bits : ℤ → ℕ
sixteen_bits (pos n) = n
sixteen_bits (negsuc n) = 65536 - suc n

abbrev pub margin_coding : Coding Margin
margin_coding = record {
  number = 2;
  width = 2;
  code = λ m. (sixteen_bits m.number / 256) ∷ (sixteen_bits m.number % 256) ∷ [];
}
