-- Any other byte is not allowed. Assumes nothing.
use Rattle.std.proofs.Common.{◌≡◌, None, arith, rules}
use Rattle.rule.specs.Machine.{rule, opens}
use Rattle.std.proofs.lemmas.Bool.Decides.{nat_tests}
use Rattle.rule.proofs.head.RuleHeadTryFromU8.try_from.Goals as goal

pub returns-in_err-try_from-in-Err : goal.returns-in_err-try_from-in-Err
unfolding opens
returns-in_err-try_from-in-Err c =
    let none : opens rule c.args.byte ≡ None = grind (arith, nat_tests, c.in_err-try_from-in-Err.ensures.0, c.in-Err.ensures.0) in
    search rules
