-- How many nodes a rule or a segment has. Assumes nothing.
use Rattle.std.specs.Prelude.{ℕ, ◌+◌}
use Rattle.rule.specs.Tree.{Segment, single, either, chain, star, Rule, letter, negated, both, any, next, until, release}

abbrev pub segment_size : Segment → ℕ
segment_size (single t) = 1
segment_size (either a b) = 1 + segment_size a + segment_size b
segment_size (chain a b) = 1 + segment_size a + segment_size b
segment_size (star a b) = 1 + segment_size a + segment_size b

abbrev pub size : Rule → ℕ
size (letter t) = 1
size (negated r) = 1 + size r
size (both r s) = 1 + size r + size s
size (any r s) = 1 + size r + size s
size (next k a r) = 1 + segment_size a + size r
size (until k r a s) = 1 + size r + segment_size a + size s
size (release k r a s) = 1 + size r + segment_size a + size s
