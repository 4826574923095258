-- What a bit letter's line is: the four lowercase hexadecimal digits of its word. Assumes nothing.
use Rattle.std.specs.Prelude.{◌≡◌, ℕ, ◌+◌, ◌/◌, ◌%◌, ◌<◌, cond, List, [], ◌∷◌, Some, None, Ok, Err, Option, Result, ◌≢◌, nat_lt}
use Rattle.fault.specs.declared.TextCause.TheVariants.{Length, Byte, Early, LeftOver, Nodes, Hexadecimal}
use Rattle.fault.specs.declared.TextFault.{TextFault}
use Rattle.fault.specs.declared.TextFault.TheVariants.{Refused, NoMemory}
use Rattle.letter.specs.declared.bits.Bits.{Bits}

-- the byte of a digit: 0 to 9, then a to f
abbrev pub hex : ℕ → ℕ
hex d = cond (nat_lt d 10) (48 + d) (87 + d)

-- a word's four digits, most significant first
abbrev pub four_digits : ℕ → List ℕ
four_digits w = hex (w / 4096) ∷ hex (w / 256 % 16) ∷ hex (w / 16 % 16) ∷ hex (w % 16) ∷ []

-- what the value of a digit's byte is, or that the byte is no digit
abbrev pub Digit : ℕ → Option ℕ → Type 0
Digit b (Some d) = (d < 16) × (hex d ≡ b)
Digit b None = (d : ℕ) → d < 16 → hex d ≢ b

-- a line is the four digits of the letter's word; refused, at place 0, is what no word of sixteen bits spells
abbrev pub LineRead : List ℕ → Result Bits TextFault → Type 0
LineRead line (Ok l) = (l.word < 65536) × (line ≡ four_digits l.word)
LineRead line (Err (Refused Hexadecimal p)) = (p ≡ 0) × ((w : ℕ) → w < 65536 → line ≢ four_digits w)
LineRead line (Err (Refused Length p)) = ⊥
LineRead line (Err (Refused Byte p)) = ⊥
LineRead line (Err (Refused Early p)) = ⊥
LineRead line (Err (Refused LeftOver p)) = ⊥
LineRead line (Err (Refused Nodes p)) = ⊥
LineRead line (Err NoMemory) = ⊥
