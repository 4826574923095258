-- How a rule is spelled: its bytes, in prefix order without blanks. Assumes nothing.
use Rattle.std.specs.Prelude.{ℕ, ◌+◌, ◌/◌, ◌%◌, Bool, true, false, List, [], ◌∷◌, ◌++◌, Some, None, codes, Option}
use Rattle.rule.specs.declared.leaf.Channel.{Channel}
use Rattle.rule.specs.declared.leaf.Kind.{Kind}
use Rattle.rule.specs.declared.leaf.Kind.TheVariants.{SomeStrong, SomeWeak, EveryStrong, EveryWeak}
use Rattle.rule.specs.declared.leaf.Test.{Test}
use Rattle.rule.specs.Tree.{Segment, single, either, chain, star, Rule, letter, negated, both, any, next, until, release}

-- two decimal digits
abbrev pub digits : Channel → List ℕ
digits c = (48 + c.number / 10) ∷ (48 + c.number % 10) ∷ []

-- `y` best, `n` worst, `hCC` the value of channel CC, `fCC` its opposite
abbrev pub test_of : Option Channel → Bool → List ℕ
test_of None false = codes "y"
test_of None true = codes "n"
test_of (Some c) false = codes "h" ++ digits c
test_of (Some c) true = codes "f" ++ digits c

abbrev pub spelled_test : Test → List ℕ
spelled_test t = test_of t.channel t.opposite

abbrev pub spelled_kind : Kind → List ℕ
spelled_kind SomeStrong = codes "E"
spelled_kind SomeWeak = codes "e"
spelled_kind EveryStrong = codes "A"
spelled_kind EveryWeak = codes "a"

abbrev pub spelled_segment : Segment → List ℕ
spelled_segment (single t) = spelled_test t
spelled_segment (either a b) = codes "|" ++ spelled_segment a ++ spelled_segment b
spelled_segment (chain a b) = codes "." ++ spelled_segment a ++ spelled_segment b
spelled_segment (star a b) = codes "*" ++ spelled_segment a ++ spelled_segment b

abbrev pub spelled : Rule → List ℕ
spelled (letter t) = spelled_test t
spelled (negated r) = codes "!" ++ spelled r
spelled (both r s) = codes "&" ++ spelled r ++ spelled s
spelled (any r s) = codes "+" ++ spelled r ++ spelled s
spelled (next k a r) = spelled_kind k ++ spelled_segment a ++ spelled r
spelled (until k r a s) = codes "U" ++ spelled_kind k ++ spelled r ++ spelled_segment a ++ spelled s
spelled (release k r a s) = codes "R" ++ spelled_kind k ++ spelled r ++ spelled_segment a ++ spelled s
