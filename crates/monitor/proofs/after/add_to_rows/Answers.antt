use Rattle.std.proofs.Common.{◌*◌, ◌≤◌, length, length-append, drop, refl, ◌∙◌, arith}
use borrow.Author.Rules.{scaled_fits≤}
use Rattle.cells.specs.Rows.{followed}
use Rattle.monitor.proofs.Columns.{row_read}
use Rattle.monitor.proofs.Fronts.{row_none, row_within, cleared_same}
use Rattle.monitor.proofs.after.add_to_rows.Goals as goal
use Rattle.std.proofs.lemmas.List.{length-take-le}
use Rattle.runs.specs.States.{table_in}

pub loop-k-init : goal.loop-k-init
loop-k-init g c =
    let A = g.S.Scale.algebra in
    let n = g.A.After.cells c.args.after.now in
    row_none n (followed A n (table_in A n c.args.table.now) (g.A.After.table c.args.after.now)) c.args.table.now

pub offset_bounds-table-k : goal.offset_bounds-table-k
offset_bounds-table-k g c =
    let k = c.loop-k.k in
    let size = c.corners-size.result in
    let table = c.args.table.now in
    let inside : k * size ≤ length table =
    omega (arith, row_within (g.A.After.cells c.args.after.now) k c.args.count size table table c.corners-size.ensures.count c.loop-k-test.true c.requires.long refl) in
    scaled_fits≤ (k * size) (length table) _ inside c.well_formed.1.1.0.1

pub add_to_row-requires-clause-room : goal.add_to_row-requires-clause-room
add_to_row-requires-clause-room g c = omega (arith, length-take-le 312 c.args.spare.now (omega arith))

pub loop-k-preserved : goal.loop-k-preserved
loop-k-preserved g c =
    row_read g.met.S.Scale.lawful (g.A.After.cells c.args.after.now) c.loop-k.k c.corners-size.result c.args.table.now c.loop-k.table c.add_to_row.new.row
    (g.A.After.table c.args.after.now) c.corners-size.ensures.count
    c.loop-k.invariant c.add_to_row.ensures

pub clear-requires : goal.clear-requires
clear-requires g c =
    omega (arith, c.requires.room, length-append c.loop-k.used (drop 312 c.args.spare.now), length-take-le 312 c.args.spare.now (omega arith))

pub returns-clause-spare : goal.returns-clause-spare
returns-clause-spare g c =
    c.clear.ensures ∙ cleared_same g.met.S.Scale.lawful 312 c.loop-k.used c.args.spare.now _
    (c.loop-k.auto.used ∙ length-take-le 312 c.args.spare.now (omega arith)) (omega arith) refl
