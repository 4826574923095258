use Rattle.std.proofs.Common.{length}
use Rattle.rule.proofs.reader.Reader.+rule.Given as goal

abbrev pub decreases-rule : goal.decreases-rule
decreases-rule l = length l.self.now.rest.now
