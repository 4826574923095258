-- How the parts that were read make a segment and a rule. Assumes nothing.
use Rattle.std.proofs.Common.{ℕ, List, [], ◌∷◌, Ok, Err, Result}
use Rattle.fault.specs.declared.TextFault.{TextFault}
use Rattle.rule.proofs.Steps.{then_next}
use Rattle.rule.specs.declared.reader.Reader.{Reader}
use Rattle.rule.specs.declared.head.Course.{Course}
use Rattle.rule.specs.declared.head.Course.TheVariants.{Until, Release}
use Rattle.rule.specs.declared.head.Joint.{Joint}
use Rattle.rule.specs.declared.head.Joint.TheVariants.{Both, Any}
use Rattle.rule.specs.declared.head.Pairing.{Pairing}
use Rattle.rule.specs.declared.head.Pairing.TheVariants.{Either, Chain, Star}
use Rattle.rule.specs.declared.leaf.Kind.{Kind}
use Rattle.rule.specs.Heads.{pair_sign, joint_sign, course_sign}
use Rattle.rule.specs.Machine.{Want, rule, segment, kind}
use Rattle.rule.specs.Parts.{Built, PartAt, Passed, paired, joined, lasting}
use Rattle.rule.specs.Size.{size, segment_size}
use Rattle.rule.specs.Spelling.{spelled_kind, spelled_segment, spelled}
use Rattle.rule.specs.Tree as plain

abbrev pub ReadSegment : Reader → plain.Segment → Reader → Type 0
ReadSegment before a after = Passed before (segment ∷ []) (spelled_segment a) (segment_size a) [] after

abbrev pub ReadRule : Reader → plain.Rule → Reader → Type 0
ReadRule before r after = Passed before (rule ∷ []) (spelled r) (size r) [] after

-- a tree that was built of what was read, or no memory for it
pub built : {X Y : Type 0} {w : Want} (spell : Y → List ℕ) (count : Y → ℕ) (of : X → Y) (tree : Y) {before after : Reader} (r : Result X TextFault)
    → Built of tree r → Passed before (w ∷ []) (spell tree) (count tree) [] after → PartAt w (λ x. spell (of x)) (λ x. count (of x)) before after r
built spell count of tree (Ok x) e read = rw e read
built spell count of tree (Err fault) e read = rw e tt

module _ (before inside : Reader) where
  pub paired_read : (p : Pairing) (a b : plain.Segment) {mid after : Reader} → Passed before (segment ∷ []) (pair_sign p) 1 (segment ∷ segment ∷ []) inside → ReadSegment inside a mid → ReadSegment mid b after → ReadSegment before (paired p a b) after
  paired_read Either a b h x y = then_next (then_next h x) y
  paired_read Chain a b h x y = then_next (then_next h x) y
  paired_read Star a b h x y = then_next (then_next h x) y

  pub joined_read : (j : Joint) (r s : plain.Rule) {mid after : Reader} → Passed before (rule ∷ []) (joint_sign j) 1 (rule ∷ rule ∷ []) inside → ReadRule inside r mid → ReadRule mid s after → ReadRule before (joined j r s) after
  joined_read Both r s h x y = then_next (then_next h x) y
  joined_read Any r s h x y = then_next (then_next h x) y

  pub lasting_read : (o : Course) (k : Kind) (r : plain.Rule) (a : plain.Segment) (s : plain.Rule) {first mid second after : Reader} → Passed before (rule ∷ []) (course_sign o) 1 (kind ∷ rule ∷ segment ∷ rule ∷ []) inside → Passed inside (kind ∷ []) (spelled_kind k) 0 [] first → ReadRule first r mid → ReadSegment mid a second → ReadRule second s after → ReadRule before (lasting o k r a s) after
  lasting_read Until k r a s h w x y z = then_next (then_next (then_next (then_next h w) x) y) z
  lasting_read Release k r a s h w x y z = then_next (then_next (then_next (then_next h w) x) y) z
