use Rattle.std.proofs.Common.{arith}
use Rattle.cells.specs.Rows.{empty}
use Rattle.monitor.proofs.Fronts.{listing_more}
use Rattle.monitor.proofs.opening.write_row.Goals as goal

pub loop-corner-preserved : goal.loop-corner-preserved
loop-corner-preserved g c =
    listing_more (empty g.S.Scale.algebra c.args.row) c.args.into.now c.loop-corner.into c.loop-corner.corner c.empty_entry.result
    (omega arith) c.loop-corner.invariant c.empty_entry.ensures
