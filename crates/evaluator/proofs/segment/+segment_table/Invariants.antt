use Rattle.rule.proofs.tree.Segment.TheLaws.{the_size}
use Rattle.evaluator.proofs.segment.+segment_table.Given as goal

abbrev pub decreases-segment_table : goal.decreases-segment_table
decreases-segment_table g l = the_size l.segment.now
