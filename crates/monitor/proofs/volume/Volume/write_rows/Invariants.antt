use Rattle.std.proofs.Common.{◌≡◌, ◌*◌, ◌^◌, ◌++◌, drop}
use Rattle.cells.specs.Rows.{followed}
use Rattle.runs.specs.States.{rows, table_in}
use Rattle.monitor.proofs.volume.Volume.write_rows.Given as goal

abbrev pub invariant-loop-k : goal.invariant-loop-k
invariant-loop-k g l =
    let A = g.S.Scale.algebra in
    let n = l.self.laid.now.count in
    l.into ≡ rows n l.k (followed A n (table_in A n l.first) (table_in A n l.self.table.now)) ++ drop (l.k * 2 ^ n) l.initial.into
