use Rattle.std.proofs.Common.{rules}
use Rattle.watch_lines.proofs.Lasting.{answered_told}
use Rattle.watch_lines.proofs.watching.answered.Goals as goal

pub returns-clause-answer : goal.returns-clause-answer
returns-clause-answer c =
    answered_told _ _ _ _ _ _ c.in-Ok.letter c.in-Ok-Ok.values c.in-Ok-Ok.count c.report-2.result
    c.in-Ok.ensures.1 (search rules) c.letter.ensures.state c.letter.ensures.spare
    (search rules) (search rules) c.report-2.ensures
