-- What holding on an endless log must keep: double negation, `!` driven inward, and what an unrolling says. Assumes nothing.
use Rattle.std.specs.Prelude.{◌≡◌, ℕ, Bool, true, false, not, T, ◌≢◌}
use Rattle.letter.specs.declared.bits.Bits.{Bits}
use Rattle.rule.specs.declared.leaf.Kind.{Kind}
use Rattle.rule.specs.declared.leaf.Kind.TheVariants.{SomeStrong, SomeWeak, EveryStrong, EveryWeak}
use Rattle.rule.specs.declared.leaf.Test.{Test}
use Rattle.rule.specs.Tree.{Segment, Rule, negated, until, release}
use Rattle.scale.specs.Laws.{Algebra}
use Rattle.scale.specs.Verdicts.{verdicts}
use Rattle.semantics.specs.Continuations.{value_along, heard_along}
use Rattle.semantics.specs.Endless.{Or, Next, Holds}
use Rattle.semantics.specs.Inward.{flipped, inward}

-- one holds if and only if the other does
abbrev pub Same : Type 0 → Type 0 → Type 0
Same P Q = (P → Q) × (Q → P)

-- E and A are strong, e and a weak
abbrev pub strong : Kind → Bool
strong SomeStrong = true
strong SomeWeak = false
strong EveryStrong = true
strong EveryWeak = false

-- value t i is what test t is worth on letter i, for every i
module _ {S : Type 0} (A : Algebra S) (value : Test → ℕ → S) where
  -- a flipped test is best just where the test is not
  abbrev pub TwoWay : Type 0
  TwoWay = (t : Test) (i : ℕ) → Same (value (flipped t) i ≡ A.best) (value t i ≢ A.best)

  -- the until unrolled once: the goal, or the hold and a next to the until itself
  abbrev pub UntilOnce : Kind → Rule → Segment → Rule → ℕ → Type 0
  UntilOnce k r a s i = Or (Holds A value s i) (Holds A value r i × Next A value k a (Holds A value (until k r a s)) i)

  -- the release unrolled once: the goal, and the hold or a next to the release itself
  abbrev pub ReleaseOnce : Kind → Rule → Segment → Rule → ℕ → Type 0
  ReleaseOnce k r a s i = Holds A value s i × Or (Holds A value r i) (Next A value k a (Holds A value (release k r a s)) i)

  pub record Sensible : Type 0 where
    pub twice_not : (r : Rule) (i : ℕ) → Holds A value (negated (negated r)) i → Holds A value r i
    pub not_twice : (r : Rule) (i : ℕ) → Holds A value r i → Holds A value (negated (negated r)) i
    -- a rule with its `!` driven inward holds where the rule does, and its opposite where the rule does not
    pub driven : TwoWay → (r : Rule) (i : ℕ)
        → Same (Holds A value (inward false r) i) (Holds A value r i) × Same (Holds A value (inward true r) i) (Holds A value (negated r) i)
    -- a strong U or R holds if its unrolling does
    pub strong_until_closed : (k : Kind) → T (strong k) → (r : Rule) (a : Segment) (s : Rule) (i : ℕ)
        → UntilOnce k r a s i → Holds A value (until k r a s) i
    pub strong_release_closed : (k : Kind) → T (strong k) → (r : Rule) (a : Segment) (s : Rule) (i : ℕ)
        → ReleaseOnce k r a s i → Holds A value (release k r a s) i
    -- a weak U or R that holds unrolls
    pub weak_until_opens : (k : Kind) → T (not (strong k)) → (r : Rule) (a : Segment) (s : Rule) (i : ℕ)
        → Holds A value (until k r a s) i → UntilOnce k r a s i
    pub weak_release_opens : (k : Kind) → T (not (strong k)) → (r : Rule) (a : Segment) (s : Rule) (i : ℕ)
        → Holds A value (release k r a s) i → ReleaseOnce k r a s i
    -- a U or R of any kind agrees with its unrolling if it can be told where it holds
    pub until_unrolled : (k : Kind) (r : Rule) (a : Segment) (s : Rule) → ((j : ℕ) → Dec (Holds A value (until k r a s) j)) → (i : ℕ)
        → Same (Holds A value (until k r a s) i) (UntilOnce k r a s i)
    pub release_unrolled : (k : Kind) (r : Rule) (a : Segment) (s : Rule) → ((j : ℕ) → Dec (Holds A value (release k r a s) j)) → (i : ℕ)
        → Same (Holds A value (release k r a s) i) (ReleaseOnce k r a s i)

-- for every scale on which it can be told whether a value is best
abbrev pub Sane : {S : Type 0} → Algebra S → Type 0
Sane {S} A = ((x : S) → Dec (x ≡ A.best)) → (value : Test → ℕ → S) → Sensible A value

-- on a log of bit letters a flipped test holds where the test does not
abbrev pub BitsTwoWay : Type 0
BitsTwoWay = (endless : ℕ → Bits) → TwoWay verdicts (value_along verdicts (heard_along endless))
