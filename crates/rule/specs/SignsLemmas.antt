-- Each kind and each first byte is known by its byte, and leaves its wants. Assumes nothing.
use Rattle.std.proofs.Common.{◌≡◌, ℕ, List, [], ◌∷◌, Some, refl, subst}
use Rattle.rule.specs.declared.head.Course.TheVariants.{Until, Release}
use Rattle.rule.specs.declared.head.Joint.TheVariants.{Both, Any}
use Rattle.rule.specs.declared.head.Pairing.TheVariants.{Either, Chain, Star}
use Rattle.rule.specs.declared.head.RuleHead.{RuleHead}
use Rattle.rule.specs.declared.head.RuleHead.TheVariants.{Letter, Negated, Joined, Next, Lasting}
use Rattle.rule.specs.declared.head.SegmentHead.{SegmentHead}
use Rattle.rule.specs.declared.head.SegmentHead.TheVariants.{Single, Pair}
use Rattle.rule.specs.declared.head.TestHead.TheVariants.{Best, Worst, Value, Opposite}
use Rattle.rule.specs.declared.leaf.Kind.{Kind}
use Rattle.rule.specs.declared.leaf.Kind.TheVariants.{SomeStrong, SomeWeak, EveryStrong, EveryWeak}
use Rattle.rule.specs.Heads.{KindByte, SegmentByte, RuleByte, segment_sign, segment_wants, rule_sign, rule_wants}
use Rattle.rule.specs.Signs.{SignLaws}
use Rattle.rule.specs.Spelling.{spelled_kind}
use Rattle.rule.specs.Machine.{Want, rule, segment, kind, opens}

abbrev first : List ℕ → ℕ
first [] = 0
first (b ∷ bs) = b

-- what each byte leaves, from what each sign leaves
opened_by : {X : Type 0} (w : Want) (sign : X → List ℕ) (left : X → List Want) → ((x : X) → opens w (first (sign x)) ≡ Some (left x))
    → (x : X) (b : ℕ) → sign x ≡ b ∷ [] → opens w b ≡ Some (left x)
opened_by w sign left opened x b e = subst (λ l. opens w (first l) ≡ Some (left x)) e (opened x)

kind_opens : (k : Kind) → opens kind (first (spelled_kind k)) ≡ Some []
unfolding opens
kind_opens SomeStrong = refl
kind_opens SomeWeak = refl
kind_opens EveryStrong = refl
kind_opens EveryWeak = refl

pub kind_sign : SignLaws kind spelled_kind (λ k. []) 0 KindByte
kind_sign = record { known = λ b r h. h; opened = opened_by kind spelled_kind (λ k. []) kind_opens; weighed = refl }

segment_opens : (h : SegmentHead) → opens segment (first (segment_sign h)) ≡ Some (segment_wants h)
unfolding opens
segment_opens (Single Best) = refl
segment_opens (Single Worst) = refl
segment_opens (Single Value) = refl
segment_opens (Single Opposite) = refl
segment_opens (Pair Either) = refl
segment_opens (Pair Chain) = refl
segment_opens (Pair Star) = refl

pub segment_head_sign : SignLaws segment segment_sign segment_wants 1 SegmentByte
segment_head_sign = record { known = λ b r h. h; opened = opened_by segment segment_sign segment_wants segment_opens; weighed = refl }

rule_opens : (h : RuleHead) → opens rule (first (rule_sign h)) ≡ Some (rule_wants h)
unfolding opens
rule_opens (Letter Best) = refl
rule_opens (Letter Worst) = refl
rule_opens (Letter Value) = refl
rule_opens (Letter Opposite) = refl
rule_opens Negated = refl
rule_opens (Joined Both) = refl
rule_opens (Joined Any) = refl
rule_opens (Next SomeStrong) = refl
rule_opens (Next SomeWeak) = refl
rule_opens (Next EveryStrong) = refl
rule_opens (Next EveryWeak) = refl
rule_opens (Lasting Until) = refl
rule_opens (Lasting Release) = refl

pub rule_head_sign : SignLaws rule rule_sign rule_wants 1 RuleByte
rule_head_sign = record { known = λ b r h. h; opened = opened_by rule rule_sign rule_wants rule_opens; weighed = refl }
