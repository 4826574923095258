-- A sign and two segments are a segment. Assumes nothing.
use Rattle.rule.proofs.Whole.{built, paired_read}
use Rattle.rule.specs.Size.{segment_size}
use Rattle.rule.specs.Spelling.{spelled_segment}
use Rattle.rule.specs.Stands.{segment_of}
use Rattle.rule.proofs.reader.Reader.+segment.Goals as goal

pub returns-in_ok-second-in-Pair : goal.returns-in_ok-second-in-Pair
returns-in_ok-second-in-Pair t c =
    let head = rw c.in-Pair.is at c.in_ok-head.ensures.1 in
    built spelled_segment segment_size segment_of _ _ c.pair.ensures
    (paired_read _ _ c.in-Pair.pairing _ _ head c.in_ok-first-in-Pair.ensures c.in_ok-second-in-Pair.ensures)
