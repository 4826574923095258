use Rattle.std.proofs.Common.{◌≡◌, ◌++◌, drop}
use Rattle.cells.specs.Rows.{empty}
use Rattle.runs.specs.States.{listing}
use Rattle.monitor.proofs.opening.write_row.Given as goal

abbrev pub invariant-loop-corner : goal.invariant-loop-corner
invariant-loop-corner g l = l.into ≡ listing l.corner (empty g.S.Scale.algebra l.row) ++ drop l.corner l.initial.into
