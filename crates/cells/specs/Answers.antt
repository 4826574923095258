-- What the answers of a step and of a mark mean. Assumes nothing.
use Rattle.std.specs.Prelude.{◌≡◌, ℕ, ◌<◌, ◌≤◌, false, cond, ◌⊎◌, List, ◌++◌, length, drop, Some, None, Ok, Err, Option, Result, nat_lt, slice_index_or}
use Rattle.semantics.specs.Inward.{inward}
use Rattle.cells.specs.Reading.{cells_before}
use Rattle.cells.specs.Step.{cell_count, end_marks}
use Rattle.cells.specs.declared.step.StepFault.{StepFault}
use Rattle.cells.specs.declared.step.StepFault.TheVariants.{Short}
use Rattle.letter.specs.Heard.{Heard}
use Rattle.rule.specs.Tree.{Rule}
use Rattle.scale.specs.Laws.{Algebra}
use Rattle.semantics.specs.Marks.{mark_of}

-- a step writes the rule's cells before the letter over the first of the old values; where there are fewer values than
-- cells, after the letter or to write over, it leaves the old ones
abbrev pub Done : {S : Type 0} → Algebra S → Heard S → Rule → List S → List S → List S → Result (Unit {0}) StepFault → Type 0
Done A l r after old new (Ok u) =
    (cell_count (inward false r) ≤ length after) × (cell_count (inward false r) ≤ length old)
    × (new ≡ cells_before A l after r ++ drop (cell_count (inward false r)) old)
Done A l r after old new (Err Short) =
    ((length after < cell_count (inward false r)) ⊎ (length old < cell_count (inward false r))) × (new ≡ old)

-- what a cell is worth at the log's end; none past the last
abbrev pub marked_cell : {S : Type 0} → Algebra S → Rule → ℕ → Option S
marked_cell A r cell =
    cond (nat_lt cell (cell_count (inward false r))) (Some (slice_index_or (end_marks A.pending (mark_of A) (inward false r)) cell A.worst)) None
