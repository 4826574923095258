-- A sign and its parts are a rule. Assumes nothing.
use Rattle.rule.proofs.Whole.{built, joined_read, lasting_read}
use Rattle.rule.specs.Size.{size}
use Rattle.rule.specs.Spelling.{spelled}
use Rattle.rule.specs.Stands.{rule_of}
use Rattle.rule.proofs.reader.Reader.+rule.Goals as goal

pub returns-in_ok-second-in-Joined : goal.returns-in_ok-second-in-Joined
returns-in_ok-second-in-Joined t c =
    let head = rw c.in-Joined.is at c.in_ok-head.ensures.1 in
    built spelled size rule_of _ _ c.join.ensures
    (joined_read _ _ c.in-Joined.joint _ _ head c.in_ok-first-in-Joined.ensures c.in_ok-second-in-Joined.ensures)

pub returns-in_ok-second-in-Lasting : goal.returns-in_ok-second-in-Lasting
returns-in_ok-second-in-Lasting t c =
    let head = rw c.in-Lasting.is at c.in_ok-head.ensures.1 in
    built spelled size rule_of _ _ c.last.ensures
    (lasting_read _ _ c.in-Lasting.course _ _ _ _ head c.in_ok-kind-in-Lasting.ensures.1 c.in_ok-first-in-Lasting.ensures c.in_ok-middle-in-Lasting.ensures c.in_ok-second-in-Lasting.ensures)
