use Rattle.std.proofs.Common.{◌≡◌, length, string_bytes, IfOk, subst}
use Rattle.lines.specs.Answers.{report_text}
use Rattle.lines.proofs.judging.judged.Goals as goal

pub returns : goal.returns
returns c =
    let answer = rw c.in-Ok-Some.field-0-is at c.in-Ok-Some.ensures.answer in
    subst (λ values. IfOk c.report.result (λ text. string_bytes text ≡ report_text (length c.args.letters.now) values)) answer.2 c.report.ensures
