-- What the work on rows writes. Assumes nothing.
use Rattle.std.specs.Prelude.{ℕ, ◌*◌, ◌^◌, false, List, [], ◌∷◌, ◌++◌, drop}
use Rattle.cells.specs.Rows.{at, followed}
use Rattle.cells.specs.RowAt.{listed}
use Rattle.cells.specs.Tables.{table_of}
use Rattle.letter.specs.Heard.{Heard}
use Rattle.rule.specs.Tree.{Rule}
use Rattle.runs.specs.States.{listing, rows, table_in}
use Rattle.scale.specs.Laws.{Algebra}
use Rattle.semantics.specs.Inward.{inward}

module _ {S : Type 0} (A : Algebra S) where
  -- the table of one letter
  abbrev pub letter_table : Rule → Heard S → ℕ → ℕ → S
  letter_table r l = table_of A (inward false r) (l ∷ [])

  -- a row of n cells after which a table comes
  abbrev pub row_then : ℕ → List S → (ℕ → ℕ → S) → List S
  row_then n row t = listing (2 ^ n) (λ corner. at A n (listed A row) (λ j. t j corner))

  -- the first rows of a buffer, after which a table comes, written over themselves
  abbrev pub rows_then : ℕ → ℕ → List S → (ℕ → ℕ → S) → List S
  rows_then n count buffer t = rows n count (followed A n (table_in A n buffer) t) ++ drop (count * 2 ^ n) buffer
