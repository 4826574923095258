use Rattle.cells.specs.Rows.{empty}
use Rattle.monitor.proofs.Fronts.{row_none, row_over}
use Rattle.monitor.proofs.opening.write_empty.Goals as goal

pub loop-k-init : goal.loop-k-init
loop-k-init g c = row_none c.args.laid.now.count (empty g.S.Scale.algebra) c.args.table.now

pub loop-k-preserved : goal.loop-k-preserved
loop-k-preserved g c =
    row_over c.args.laid.now.count c.loop-k.k c.args.count c.corners-size.result (empty g.S.Scale.algebra) c.args.table.now c.loop-k.table
    c.write_row.new.into c.corners-size.ensures.count c.loop-k-test.true c.requires.long c.loop-k.auto.table c.loop-k.invariant c.write_row.ensures
