use Rattle.rule.proofs.tree.Rule.TheLaws.{the_size}
use Rattle.evaluator.proofs.worth.+rule_row.Given as goal

abbrev pub decreases-rule_row : goal.decreases-rule_row
decreases-rule_row g l = the_size l.rule.now
