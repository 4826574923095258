-- The plain tree that a rule of the code stands for: its boxes left out. Assumes nothing.
use Rattle.rule.specs.Tree as plain
use Rattle.rule.specs.declared.tree.Segment.{Segment}
use Rattle.rule.specs.declared.tree.Segment.TheVariants.{Single, Either', Chain', Star'}
use Rattle.rule.specs.declared.tree.Rule.{Rule}
use Rattle.rule.specs.declared.tree.Rule.TheVariants.{Letter, Negated', Both', Any', Next', Until', Release'}

abbrev pub segment_of : Segment → plain.Segment
segment_of (Single t) = plain.single t
segment_of (Either' p a q b) = plain.either (segment_of a) (segment_of b)
segment_of (Chain' p a q b) = plain.chain (segment_of a) (segment_of b)
segment_of (Star' p a q b) = plain.star (segment_of a) (segment_of b)

abbrev pub rule_of : Rule → plain.Rule
rule_of (Letter t) = plain.letter t
rule_of (Negated' p r) = plain.negated (rule_of r)
rule_of (Both' p r q s) = plain.both (rule_of r) (rule_of s)
rule_of (Any' p r q s) = plain.any (rule_of r) (rule_of s)
rule_of (Next' k a p r) = plain.next k (segment_of a.value) (rule_of r)
rule_of (Until' k p r a q s) = plain.until k (rule_of r) (segment_of a.value) (rule_of s)
rule_of (Release' k p r a q s) = plain.release k (rule_of r) (segment_of a.value) (rule_of s)
