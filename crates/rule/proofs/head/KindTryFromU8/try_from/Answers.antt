-- Any other byte is not allowed. Assumes nothing.
use Rattle.std.proofs.Common.{arith}
use Rattle.rule.specs.Machine.{opens}
use Rattle.std.proofs.lemmas.Bool.Decides.{nat_tests}
use Rattle.rule.proofs.head.KindTryFromU8.try_from.Goals as goal

pub returns-in_default : goal.returns-in_default
unfolding opens
returns-in_default c = grind (arith, nat_tests)
