use Rattle.watch_lines.proofs.Lasting.{lasting, ran_line}
use Rattle.watch_lines.proofs.watching.watch_line.Goals as goal

pub returns : goal.returns
returns c = record {
  answer = c.answered.ensures.answer;
  lasting = lasting _ _ _ _ _ _ c.answered.result c.answered.ensures.answer;
  buffer = c.answered.ensures.buffer;
  run = ran_line _ _ _ _ _ _ c.answered.result c.answered.ensures.answer;
}
