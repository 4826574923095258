-- The bytes of a short text. Assumes nothing.
use Rattle.std.specs.Prelude.{ℕ, Bool, List, take}
use Rattle.short_text.specs.declared.text.ShortText.{ShortText}
use Rattle.std.specs.Ordering.{on}
use Rattle.std.specs.Str.{bytes_eq}

abbrev pub text_of : {n : ℕ} → ShortText n → List ℕ
text_of t = take t.len t.place

-- two texts are the same byte for byte
abbrev pub same_text : {n : ℕ} → ShortText n → ShortText n → Bool
same_text = on text_of bytes_eq
