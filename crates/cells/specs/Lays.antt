-- What laying the cells of a rule text answers. Assumes nothing.
use Rattle.std.specs.Prelude.{◌≡◌, ℕ, ◌<◌, ◌≤◌, false, List, Ok, Err, Result}
use Rattle.cells.specs.declared.laid.Laid.{Laid}
use Rattle.semantics.specs.Inward.{inward}
use Rattle.cells.specs.Step.{cell_count}
use Rattle.fault.specs.declared.CellCause.TheVariants.{Ninth}
use Rattle.fault.specs.declared.CellFault.{CellFault}
use Rattle.fault.specs.declared.CellFault.TheVariants as cell
use Rattle.fault.specs.declared.TextFault.TheVariants as text
use Rattle.rule.specs.Reading.{Only, accepted, refused}
use Rattle.rule.specs.Stands.{rule_of}
use Rattle.rule.specs.Tree as plain

-- the text's one answer and the number of its cells; a ninth cell is refused, at place 0
abbrev pub Lays : List ℕ → Result Laid CellFault → Type 0
Lays t (Ok laid) =
    Only t (accepted (rule_of laid.rule)) × (laid.count ≡ cell_count (inward false (rule_of laid.rule))) × (laid.count ≤ 8)
Lays t (Err (cell.Text (text.Refused cause p))) = Only t (refused cause p)
Lays t (Err (cell.Text text.NoMemory)) = Unit {0}
Lays t (Err (cell.Refused Ninth p)) = (p ≡ 0) × ((r : plain.Rule) × Only t (accepted r) × (8 < cell_count (inward false r)))
