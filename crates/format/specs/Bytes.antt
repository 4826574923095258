-- A card is a stored summary: four fields, each a one-byte tag, a two-byte length and its bytes. Numbers stand most
-- significant byte first. Assumes nothing.
use Rattle.std.specs.Prelude.{◌≡◌, ℕ, ◌/◌, ◌%◌, ◌≤◌, List, [], ◌∷◌, ◌++◌, length, take}
use Rattle.cells.specs.Rows.{AllRise, empty}
use Rattle.rule.specs.Spelling.{spelled}
use Rattle.rule.specs.Tree.{Rule}
use Rattle.runs.specs.Calls.{most_letters}
use Rattle.runs.specs.States.{State, summary, cells_of_rule, table_size, table_in, rows}
use Rattle.scale.specs.Codes.{Coding}
use Rattle.scale.specs.Laws.{Algebra}

abbrev pub two_bytes : ℕ → List ℕ
two_bytes n = (n / 256 % 256) ∷ (n % 256) ∷ []

abbrev pub four_bytes : ℕ → List ℕ
four_bytes n = (n / 16777216 % 256) ∷ (n / 65536 % 256) ∷ (n / 256 % 256) ∷ (n % 256) ∷ []

-- a field: tag, length, bytes
abbrev pub field : ℕ → List ℕ → List ℕ
field tag bytes = tag ∷ (two_bytes (length bytes) ++ bytes)

-- the codes of values, one after the other
abbrev pub codes_of : {S : Type 0} → Coding S → List S → List ℕ
codes_of C [] = []
codes_of C (x ∷ values) = C.code x ++ codes_of C values

-- the rows of a summary, in order
abbrev pub values_of : {S : Type 0} → State S → List S
values_of s = take (table_size summary s.rule) s.buffer

-- the card of a summary: 1 the rule text, 2 the scale's number, 3 the count, 4 the rows
abbrev pub card_of : {S : Type 0} → Coding S → State S → List ℕ
card_of C s =
    field 1 (spelled s.rule) ++ (field 2 (C.number ∷ []) ++ (field 3 (four_bytes s.count) ++ field 4 (codes_of C (values_of s))))

-- a table is lawful: a corner's entry lies below every wider one's, and a table of no letters is the empty volume's
pub record LawfulTable {S : Type 0} (A : Algebra S) (r : Rule) (count : ℕ) (values : List S) : Type 0 where
  pub rise : AllRise A (cells_of_rule r) (table_in A (cells_of_rule r) values)
  pub none_read : count ≡ 0 → values ≡ rows (cells_of_rule r) (cells_of_rule r) (empty A)

-- a summary that cards are for: its buffer is long enough, its count within the limit, its table lawful, and its rule's text
-- not too long
pub record Cardable {S : Type 0} (A : Algebra S) (s : State S) : Type 0 where
  pub long : table_size summary s.rule ≤ length s.buffer
  pub within : s.count ≤ most_letters
  pub lawful : LawfulTable A s.rule s.count (values_of s)
  pub text : length (spelled s.rule) ≤ 96
  pub few : cells_of_rule s.rule ≤ 8
