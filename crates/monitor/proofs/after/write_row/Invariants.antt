use Rattle.std.proofs.Common.{◌≡◌, ◌++◌, drop}
use Rattle.cells.specs.RowAt.{listed}
use Rattle.cells.specs.Rows.{at}
use Rattle.monitor.proofs.after.write_row.Given as goal
use Rattle.runs.specs.States.{listing}

abbrev pub invariant-loop-corner : goal.invariant-loop-corner
invariant-loop-corner g l =
    let A = g.S.Scale.algebra in
    l.into ≡ listing l.corner (λ corner. at A (g.A.After.cells l.after) (listed A l.row) (λ j. g.A.After.table l.after j corner)) ++ drop l.corner l.initial.into
