use Rattle.std.proofs.Common.{rules, false, ◌∙◌, arith}
use Rattle.cells.specs.RowAt.{listed}
use Rattle.cells.specs.Step.{end_marks}
use Rattle.monitor.proofs.Columns.{row_given, told_is}
use Rattle.monitor.proofs.telling.tell.Goals as goal
use Rattle.rule.specs.Stands.{rule_of}
use Rattle.semantics.specs.Inward.{inward}
use Rattle.semantics.specs.Marks.{mark_of}
use Rattle.std.proofs.lemmas.List.{length-take-le}
use Rattle.std.proofs.lemmas.Nat.{pow_pos}

pub returns : goal.returns
returns g c =
    let A = g.S.Scale.algebra in
    let laid = c.args.laid.now in
    told_is g.met.S.Scale.lawful (rule_of laid.rule) c.args.table.now laid.count c.corners-size.result
    _ _ _ laid.counted c.corners-size.ensures.count (omega arith) (omega (arith, pow_pos laid.count))
    (c.unwrap_or.ensures ∙ row_given A _ laid.count _ c.row_by-verdict.result _ (listed A (end_marks A.pending (mark_of A) (inward false (rule_of laid.rule))))
    c.row_by-verdict.ensures.answer (length-take-le c.corners-size.result c.args.table.now (omega arith) ∙ c.corners-size.ensures.count) (λ cell l x p. search rules)) c.index-table-0.is c.index-table-size.is
