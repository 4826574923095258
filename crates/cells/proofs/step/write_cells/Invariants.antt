use Rattle.std.proofs.Common.{◌≡◌, ◌++◌, take, drop}
use Rattle.cells.specs.Reading.{cells_before}
use Rattle.cells.proofs.step.write_cells.Given as goal
use Rattle.rule.specs.Stands.{rule_of}

abbrev pub invariant-loop-cell : goal.invariant-loop-cell
invariant-loop-cell g l =
    l.before ≡ take l.cell (cells_before g.S.Scale.algebra (g.L.Letter.heard l.ahead.letter.now) l.ahead.after.now (rule_of l.laid.rule)) ++ drop l.cell l.initial.before
