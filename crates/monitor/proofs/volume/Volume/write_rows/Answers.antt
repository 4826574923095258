use Rattle.cells.specs.Rows.{followed}
use Rattle.monitor.proofs.Fronts.{row_none, row_added}
use Rattle.monitor.proofs.volume.Volume.write_rows.Goals as goal
use Rattle.runs.specs.States.{table_in}

pub loop-k-init : goal.loop-k-init
loop-k-init g c =
    let A = g.S.Scale.algebra in
    let n = c.args.self.now.laid.now.count in
    row_none n (followed A n (table_in A n c.args.first.now) (table_in A n c.args.self.now.table.now)) c.args.into.now

pub loop-k-preserved : goal.loop-k-preserved
loop-k-preserved g c =
    let n = c.args.self.now.laid.now.count in
    row_added g.met.S.Scale.lawful n c.loop-k.k c.corners-size.result c.args.first.now c.args.into.now c.loop-k.into
    c.write_row.new.into (table_in g.S.Scale.algebra n c.args.self.now.table.now) c.corners-size.ensures.count c.loop-k.invariant c.write_row.ensures
