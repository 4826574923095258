use Rattle.std.proofs.Common.{◌≡◌, ◌*◌, ◌^◌, ◌++◌, drop}
use Rattle.cells.specs.Rows.{followed}
use Rattle.monitor.proofs.after.add_to_rows.Given as goal
use Rattle.runs.specs.States.{rows, table_in}

abbrev pub invariant-loop-k : goal.invariant-loop-k
invariant-loop-k g l =
    let A = g.S.Scale.algebra in
    let n = g.A.After.cells l.after in
    l.table ≡ rows n l.k (followed A n (table_in A n l.initial.table) (g.A.After.table l.after)) ++ drop (l.k * 2 ^ n) l.initial.table
