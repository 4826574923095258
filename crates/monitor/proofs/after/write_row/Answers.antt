use Rattle.std.proofs.Common.{arith}
use Rattle.cells.specs.RowAt.{listed}
use Rattle.cells.specs.Rows.{at}
use Rattle.monitor.proofs.Fronts.{listing_more}
use Rattle.monitor.proofs.after.write_row.Goals as goal

pub loop-corner-preserved : goal.loop-corner-preserved
loop-corner-preserved g c =
    let A = g.S.Scale.algebra in
    listing_more (λ corner. at A (g.A.After.cells c.args.after.now) (listed A c.args.row.now) (λ j. g.A.After.table c.args.after.now j corner)) c.args.into.now
    c.loop-corner.into c.loop-corner.corner c.entry.result (omega arith) c.loop-corner.invariant c.entry.ensures
