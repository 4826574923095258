use Rattle.std.proofs.Common.{sym, ap, ◌∙◌}
use Rattle.cells.specs.Texts.{text_of}
use Rattle.monitor.proofs.Accepted.{names}
use Rattle.monitor.proofs.head.Head.of.Goals as goal
use Rattle.rule.specs.Spelling.{spelled}
use Rattle.rule.specs.Stands.{rule_of}
use Rattle.runs.specs.States.{cells_of_rule}

pub invariant_of-result : goal.invariant_of-result
invariant_of-result c =
    let rule = c.args.rule.now in
    let e = names (text_of rule.text) (rule_of rule.laid.rule) rule.spells in
    record {
      spells = rule.spells ∙ ap spelled (sym e);
      counted = rule.laid.counted ∙ ap cells_of_rule (sym e);
      few = rule.laid.few;
    }

pub returns-clause-named : goal.returns-clause-named
returns-clause-named c = let rule = c.args.rule.now in names (text_of rule.text) (rule_of rule.laid.rule) rule.spells
