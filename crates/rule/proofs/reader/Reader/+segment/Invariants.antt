use Rattle.std.proofs.Common.{length}
use Rattle.rule.proofs.reader.Reader.+segment.Given as goal

abbrev pub decreases-segment : goal.decreases-segment
decreases-segment l = length l.self.now.rest.now
