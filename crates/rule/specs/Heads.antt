-- What a first byte says: how it is spelled and what it leaves to be read. Assumes nothing.
use Rattle.std.specs.Prelude.{◌≡◌, ℕ, false, List, [], ◌∷◌, Ok, Err, codes, Result}
use Rattle.fault.specs.declared.TextCause.{TextCause}
use Rattle.fault.specs.declared.TextCause.TheVariants.{Byte}
use Rattle.rule.specs.Machine.{Want, rule, segment, kind, tens}
use Rattle.rule.specs.Reading.{among}
use Rattle.rule.specs.Signs.{Known}
use Rattle.rule.specs.Spelling.{spelled_kind}
use Rattle.rule.specs.declared.head.Course.{Course}
use Rattle.rule.specs.declared.head.Course.TheVariants.{Until, Release}
use Rattle.rule.specs.declared.head.Joint.{Joint}
use Rattle.rule.specs.declared.head.Joint.TheVariants.{Both, Any}
use Rattle.rule.specs.declared.head.Pairing.{Pairing}
use Rattle.rule.specs.declared.head.Pairing.TheVariants.{Either, Chain, Star}
use Rattle.rule.specs.declared.head.RuleHead.{RuleHead}
use Rattle.rule.specs.declared.head.RuleHead.TheVariants.{Letter, Negated, Joined, Next, Lasting}
use Rattle.rule.specs.declared.head.SegmentHead.{SegmentHead}
use Rattle.rule.specs.declared.head.SegmentHead.TheVariants.{Single, Pair}
use Rattle.rule.specs.declared.head.TestHead.{TestHead}
use Rattle.rule.specs.declared.head.TestHead.TheVariants.{Best, Worst, Value, Opposite}
use Rattle.rule.specs.declared.leaf.Kind.{Kind}

abbrev pub test_sign : TestHead → List ℕ
test_sign Best = codes "y"
test_sign Worst = codes "n"
test_sign Value = codes "h"
test_sign Opposite = codes "f"

abbrev pub test_wants : TestHead → List Want
test_wants Best = []
test_wants Worst = []
test_wants Value = tens ∷ []
test_wants Opposite = tens ∷ []

abbrev pub pair_sign : Pairing → List ℕ
pair_sign Either = codes "|"
pair_sign Chain = codes "."
pair_sign Star = codes "*"

abbrev pub segment_sign : SegmentHead → List ℕ
segment_sign (Single test) = test_sign test
segment_sign (Pair pairing) = pair_sign pairing

abbrev pub segment_wants : SegmentHead → List Want
segment_wants (Single test) = test_wants test
segment_wants (Pair pairing) = segment ∷ segment ∷ []

abbrev pub joint_sign : Joint → List ℕ
joint_sign Both = codes "&"
joint_sign Any = codes "+"

abbrev pub course_sign : Course → List ℕ
course_sign Until = codes "U"
course_sign Release = codes "R"

abbrev pub rule_sign : RuleHead → List ℕ
rule_sign (Letter test) = test_sign test
rule_sign Negated = codes "!"
rule_sign (Joined joint) = joint_sign joint
rule_sign (Next k) = spelled_kind k
rule_sign (Lasting course) = course_sign course

abbrev pub rule_wants : RuleHead → List Want
rule_wants (Letter test) = test_wants test
rule_wants Negated = rule ∷ []
rule_wants (Joined joint) = rule ∷ rule ∷ []
rule_wants (Next k) = segment ∷ rule ∷ []
rule_wants (Lasting course) = kind ∷ rule ∷ segment ∷ rule ∷ []

-- the byte is the sign of the test; with none it is no test's
abbrev pub TestByte : ℕ → Result TestHead TextCause → Type 0
TestByte b (Ok head) = test_sign head ≡ b ∷ []
TestByte b (Err e) = (among b (codes "ynhf") ≡ false) × (e ≡ Byte)

abbrev pub KindByte : ℕ → Result Kind TextCause → Type 0
KindByte = Known kind spelled_kind

abbrev pub SegmentByte : ℕ → Result SegmentHead TextCause → Type 0
SegmentByte = Known segment segment_sign

abbrev pub RuleByte : ℕ → Result RuleHead TextCause → Type 0
RuleByte = Known rule rule_sign
