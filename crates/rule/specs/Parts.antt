-- What the inner functions of the reader promise. Assumes nothing.
use Rattle.std.specs.Prelude.{◌≡◌, ℕ, ◌+◌, ◌<◌, ◌≤◌, false, ◌&&◌, List, [], ◌∷◌, ◌++◌, length, drop, Some, None, Ok, Err, Option, Result, nat_le}
use Rattle.fault.specs.declared.TextCause.{TextCause}
use Rattle.fault.specs.declared.TextCause.TheVariants.{Early}
use Rattle.fault.specs.declared.TextFault.{TextFault}
use Rattle.fault.specs.declared.TextFault.TheVariants.{Refused, NoMemory}
use Rattle.rule.specs.declared.reader.Reader.{Reader}
use Rattle.rule.specs.declared.head.Course.{Course}
use Rattle.rule.specs.declared.head.Course.TheVariants.{Until, Release}
use Rattle.rule.specs.declared.head.Joint.{Joint}
use Rattle.rule.specs.declared.head.Joint.TheVariants.{Both, Any}
use Rattle.rule.specs.declared.head.Pairing.{Pairing}
use Rattle.rule.specs.declared.head.Pairing.TheVariants.{Either, Chain, Star}
use Rattle.rule.specs.declared.head.TestHead.{TestHead}
use Rattle.rule.specs.declared.leaf.Channel.{Channel}
use Rattle.rule.specs.declared.leaf.Kind.{Kind}
use Rattle.rule.specs.declared.leaf.Test.{Test}
use Rattle.rule.specs.declared.tree.Rule.{Rule}
use Rattle.rule.specs.declared.tree.Segment.{Segment}
use Rattle.rule.specs.Heads.{test_sign, test_wants}
use Rattle.rule.specs.Machine.{Want, rule, segment, tens, opens, weight, run, stop}
use Rattle.rule.specs.Size.{size, segment_size}
use Rattle.rule.specs.Spelling.{digits, spelled_test, spelled_segment, spelled}
use Rattle.rule.specs.Stands.{segment_of, rule_of}
use Rattle.rule.specs.Tree as plain

-- from one reader to another, these bytes with this many nodes were read, and other wants took the place of the first
pub record Passed (before : Reader) (wants : List Want) (part : List ℕ) (count : ℕ) (left : List Want) (after : Reader) : Type 0 where
  pub placed : before.at + length before.rest.now ≡ after.at + length after.rest.now
  pub forward : length after.rest.now ≤ length before.rest.now
  pub bytes : before.rest.now ≡ part ++ after.rest.now
  pub counted : after.nodes ≡ before.nodes + count
  pub goes : (ws : List Want) → run before.nodes before.at (wants ++ ws) before.rest.now ≡ run after.nodes after.at (left ++ ws) after.rest.now

-- with these wants first, the reading stops with this fault, whatever is wanted after them
abbrev pub Stops : Reader → List Want → TextFault → Type 0
Stops before wants (Refused cause p) = (ws : List Want) → run before.nodes before.at (wants ++ ws) before.rest.now ≡ stop cause p
Stops before wants NoMemory = Unit {0}

-- the next byte, or the text ends there
abbrev pub ByteAt : Reader → Result ℕ TextFault → Type 0
ByteAt before (Ok b) = before.rest.now ≡ b ∷ drop 1 before.rest.now
ByteAt before (Err e) = (before.rest.now ≡ []) × (e ≡ Refused Early before.at)

-- one byte further, and so many nodes
pub record Advanced (before : Reader) (count : ℕ) (after : Reader) : Type 0 where
  pub rest : after.rest.now ≡ drop 1 before.rest.now
  pub place : after.at ≡ before.at + 1
  pub nodes : after.nodes ≡ before.nodes + count

-- a byte was read that is so many nodes, and leaves its wants; or the reading stops, by a refusal at this place: reading a sign makes
-- nothing, so it never wants memory
abbrev pub SignAt : {X : Type 0} → Want → (X → List ℕ) → (X → List Want) → ℕ → Reader → Reader → Result X TextFault → Type 0
SignAt w sign left count before after (Ok x) =
    (length after.rest.now < length before.rest.now) × Passed before (w ∷ []) (sign x) count (left x) after
SignAt w sign left count before after (Err e) = Stops before (w ∷ []) e × (cause : TextCause) × (e ≡ Refused cause before.at)

-- a whole part was read
abbrev pub PartAt : {X : Type 0} → Want → (X → List ℕ) → (X → ℕ) → Reader → Reader → Result X TextFault → Type 0
PartAt w spell count before after (Ok x) = Passed before (w ∷ []) (spell x) (count x) [] after
PartAt w spell count before after (Err e) = Stops before (w ∷ []) e

abbrev pub ChannelAt : Reader → Reader → Result Channel TextFault → Type 0
ChannelAt = PartAt tens digits (λ c. 0)

abbrev pub SegmentAt : Reader → Reader → Result Segment TextFault → Type 0
SegmentAt = PartAt segment (λ s. spelled_segment (segment_of s)) (λ s. segment_size (segment_of s))

abbrev pub RuleAt : Reader → Reader → Result Rule TextFault → Type 0
RuleAt = PartAt rule (λ r. spelled (rule_of r)) (λ r. size (rule_of r))

-- a digit up to a number was read, for any want that takes no other byte
abbrev pub DigitAt : ℕ → Reader → Reader → Result ℕ TextFault → Type 0
DigitAt most before after (Ok d) =
    (d ≤ most) × ((w : Want) (left : List Want) → opens w (48 + d) ≡ Some left → weight w ≡ 0 → Passed before (w ∷ []) ((48 + d) ∷ []) 0 left after)
DigitAt most before after (Err e) = (w : Want) → ((b : ℕ) → (nat_le 48 b && nat_le b (48 + most)) ≡ false → opens w b ≡ None) → Stops before (w ∷ []) e

-- the digits of a test's channel, if it has one
abbrev pub channel_digits : Option Channel → List ℕ
channel_digits None = []
channel_digits (Some c) = digits c

-- the rest of a test after its first byte
abbrev pub TestAfter : TestHead → Reader → Reader → Result Test TextFault → Type 0
TestAfter head before after (Ok test) =
    (spelled_test test ≡ test_sign head ++ channel_digits test.channel) × Passed before (test_wants head) (channel_digits test.channel) 0 [] after
TestAfter head before after (Err e) = Stops before (test_wants head) e

-- the tree that was built, or there was no memory
abbrev pub Built : {X Y : Type 0} → (X → Y) → Y → Result X TextFault → Type 0
Built of tree (Ok x) = of x ≡ tree
Built of tree (Err e) = e ≡ NoMemory

abbrev pub paired : Pairing → plain.Segment → plain.Segment → plain.Segment
paired Either = plain.either
paired Chain = plain.chain
paired Star = plain.star

abbrev pub joined : Joint → plain.Rule → plain.Rule → plain.Rule
joined Both = plain.both
joined Any = plain.any

abbrev pub lasting : Course → Kind → plain.Rule → plain.Segment → plain.Rule → plain.Rule
lasting Until = plain.until
lasting Release = plain.release
