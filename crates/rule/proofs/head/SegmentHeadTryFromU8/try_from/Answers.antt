-- Any other byte is not allowed. Assumes nothing.
use Rattle.std.proofs.Common.{◌≡◌, None, arith, rules}
use Rattle.rule.specs.Machine.{segment, opens}
use Rattle.std.proofs.lemmas.Bool.Decides.{nat_tests}
use Rattle.rule.proofs.head.SegmentHeadTryFromU8.try_from.Goals as goal

pub returns-in_err-try_from-in_default : goal.returns-in_err-try_from-in_default
unfolding opens
returns-in_err-try_from-in_default c =
    let none : opens segment c.args.byte ≡ None = grind (arith, nat_tests, c.in_err-try_from-in_default.ensures.0) in
    search rules
