use Rattle.std.proofs.Common.{◌≡◌, ◌*◌, ◌^◌, ◌++◌, drop}
use Rattle.cells.specs.Rows.{empty}
use Rattle.runs.specs.States.{rows}
use Rattle.monitor.proofs.opening.write_empty.Given as goal

abbrev pub invariant-loop-k : goal.invariant-loop-k
invariant-loop-k g l = l.table ≡ rows l.laid.count l.k (empty g.S.Scale.algebra) ++ drop (l.k * 2 ^ l.laid.count) l.initial.table
