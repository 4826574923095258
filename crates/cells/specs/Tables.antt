-- The table of a log: how the cells before it depend on the cells after it. Assumes nothing.
use Rattle.std.specs.Prelude.{◌≡◌, ℕ, ◌^◌, ◌<◌, List, [], ◌++◌, map, length, get_or, slice_index_or}
use Rattle.cells.specs.Meaning.{Positive, steps}
use Rattle.cells.specs.Rows.{at_corner, at, empty, followed, AllRise}
use Rattle.cells.specs.Step.{cell_count}
use Rattle.letter.specs.Heard.{Heard}
use Rattle.rule.specs.Tree.{Rule}
use Rattle.scale.specs.Laws.{Algebra}
use Rattle.std.specs.List.{range_with_len}

-- the cells of a corner: its cells best, the others worst
abbrev pub corner_cells : {S : Type 0} → Algebra S → ℕ → ℕ → List S
corner_cells A n corner = map (at_corner A corner) (range_with_len 0 n)

-- row k at a corner: cell k before the log when the corner's cells end best and the others worst
abbrev pub table_of : {S : Type 0} → Algebra S → Rule → List (Heard S) → ℕ → ℕ → S
table_of A r log k corner = slice_index_or (steps A r log (corner_cells A (cell_count r) corner)) k A.worst

-- for every rule without `!`
pub record TableLaws {S : Type 0} (A : Algebra S) : Type 0 where
  -- the cells before a log are its rows at the cells after it
  pub determined : (r : Rule) → Positive r → (log : List (Heard S)) (v : List S) → length v ≡ cell_count r → (k : ℕ) → k < cell_count r
      → slice_index_or (steps A r log v) k A.worst ≡ at A (cell_count r) (table_of A r log k) (λ j. get_or v j A.worst)
  -- the rows of a log rise with the corner
  pub rises : (r : Rule) → Positive r → (log : List (Heard S)) → AllRise A (cell_count r) (table_of A r log)
  -- one log after another: each row of the first at the values of the second's rows
  pub joined : (r : Rule) → Positive r → (log more : List (Heard S)) (k corner : ℕ) → k < cell_count r → corner < 2 ^ cell_count r
      → table_of A r (log ++ more) k corner ≡ followed A (cell_count r) (table_of A r log) (table_of A r more) k corner
  -- the empty log has the empty volume's rows
  pub empty_log : (r : Rule) (k corner : ℕ) → k < cell_count r → table_of A r [] k corner ≡ empty A k corner
