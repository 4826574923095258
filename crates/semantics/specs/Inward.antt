-- A rule with its `!` driven inward. Assumes nothing.
use Rattle.std.specs.Prelude.{Bool, true, false, not}
pub use Rattle.rule.specs.Kinds.{dual}
use Rattle.rule.specs.declared.leaf.Test.{Test}
use Rattle.rule.specs.Tree.{Rule, letter, negated, both, any, next, until, release}

-- y and n change places, and so do h and f
abbrev pub flipped : Test → Test
flipped t = record { channel = t.channel; opposite = not t.opposite }

-- the rule, or its opposite where the flag is set, with no `!`: & and + change places, so do U and R; segments stay
unfoldable pub inward : Bool → Rule → Rule
inward false (letter t) = letter t
inward true (letter t) = letter (flipped t)
inward false (negated r) = inward true r
inward true (negated r) = inward false r
inward false (both r s) = both (inward false r) (inward false s)
inward true (both r s) = any (inward true r) (inward true s)
inward false (any r s) = any (inward false r) (inward false s)
inward true (any r s) = both (inward true r) (inward true s)
inward false (next k a r) = next k a (inward false r)
inward true (next k a r) = next (dual k) a (inward true r)
inward false (until k r a s) = until k (inward false r) a (inward false s)
inward true (until k r a s) = release (dual k) (inward true r) a (inward true s)
inward false (release k r a s) = release k (inward false r) a (inward false s)
inward true (release k r a s) = until (dual k) (inward true r) a (inward true s)
