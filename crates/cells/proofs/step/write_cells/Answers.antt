use Rattle.std.proofs.Common.{false, arith}
use Rattle.cells.specs.Reading.{on_letter, cells_of, cells_before}
use Rattle.cells.proofs.Filling.{filled_more, filled_whole}
use Rattle.cells.proofs.Tables.{step_length}
use Rattle.cells.proofs.step.write_cells.Goals as goal
use Rattle.rule.specs.Stands.{rule_of}
use Rattle.semantics.specs.Inward.{inward}

pub loop-cell-preserved : goal.loop-cell-preserved
loop-cell-preserved g c =
    let A = g.S.Scale.algebra in
    let long = step_length A (on_letter A (g.L.Letter.heard c.args.ahead.now.letter.now)) (cells_of A c.args.ahead.now.after.now) (inward false (rule_of c.args.laid.now.rule)) in
    let cells = cells_before A (g.L.Letter.heard c.args.ahead.now.letter.now) c.args.ahead.now.after.now (rule_of c.args.laid.now.rule) in
    filled_more cells c.args.before.now c.loop-cell.before c.loop-cell.cell c.cell_before.result A.worst (omega arith) (omega arith) c.loop-cell.invariant c.cell_before.ensures

pub returns : goal.returns
returns g c =
    let A = g.S.Scale.algebra in
    let cells = cells_before A (g.L.Letter.heard c.args.ahead.now.letter.now) c.args.ahead.now.after.now (rule_of c.args.laid.now.rule) in
    let long = step_length A (on_letter A (g.L.Letter.heard c.args.ahead.now.letter.now)) (cells_of A c.args.ahead.now.after.now) (inward false (rule_of c.args.laid.now.rule)) in
    filled_whole cells c.args.before.now c.loop-cell.before c.loop-cell.cell (omega arith) (omega arith) c.loop-cell.invariant
