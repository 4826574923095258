-- A rule and its parts as plain trees. Assumes nothing.
use Rattle.rule.specs.declared.leaf.Kind.{Kind}
use Rattle.rule.specs.declared.leaf.Test.{Test}

-- what reads a stretch of letters: one letter that meets a test, either of two segments, one after the
-- other, or the first any number of times and then the second
pub data Segment : Type 0 where
  single : Test → Segment
  either : Segment → Segment → Segment
  chain : Segment → Segment → Segment
  star : Segment → Segment → Segment

-- a rule: a test of the letter at hand, `!`, `&`, `+`, a next of some kind, `U`, `R`
pub data Rule : Type 0 where
  letter : Test → Rule
  negated : Rule → Rule
  both : Rule → Rule → Rule
  any : Rule → Rule → Rule
  next : Kind → Segment → Rule → Rule
  until : Kind → Rule → Segment → Rule → Rule
  release : Kind → Rule → Segment → Rule → Rule
