use Rattle.rule.proofs.tree.Rule.TheLaws.{the_size}
use Rattle.cells.proofs.mark.+inner_mark.Given as goal

abbrev pub decreases-inner_mark : goal.decreases-inner_mark
decreases-inner_mark g l = the_size l.rule.now
