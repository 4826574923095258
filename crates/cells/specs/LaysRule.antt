-- What laying the cells of a rule text answers, with the text kept. Assumes nothing.
use Rattle.std.specs.Prelude.{◌≡◌, ℕ, List, Ok, Err, Result}
use Rattle.cells.specs.declared.laid_rule.LaidRule.{LaidRule}
use Rattle.cells.specs.Lays.{Lays}
use Rattle.cells.specs.Texts.{text_of}
use Rattle.fault.specs.declared.CellFault.{CellFault}

-- what lay answers, and the text itself
abbrev pub LaysRule : List ℕ → Result LaidRule CellFault → Type 0
LaysRule t (Ok rule) = Lays t (Ok rule.laid) × (text_of rule.text ≡ t)
LaysRule t (Err fault) = Lays t (Err fault)
