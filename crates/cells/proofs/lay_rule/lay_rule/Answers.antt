use Rattle.std.proofs.Common.{rules}
use Rattle.std.proofs.lemmas.List.{take_all}
use Rattle.cells.proofs.lay_rule.lay_rule.Goals as goal

pub invariant_of-result : goal.invariant_of-result
invariant_of-result c =
    let whole = take_all 96 c.args.text.now c.in_ok-laid.ensures.answer.0.0.fitting.1 in
    search rules
