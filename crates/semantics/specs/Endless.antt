-- When a rule holds on an endless log. Or and some are read classically: not neither, not none. Assumes nothing.
use Rattle.std.specs.Prelude.{◌≡◌, ℕ, Bool, T}
use Rattle.rule.specs.declared.leaf.Kind.{Kind}
use Rattle.rule.specs.declared.leaf.Kind.TheVariants.{SomeStrong, SomeWeak, EveryStrong, EveryWeak}
use Rattle.rule.specs.declared.leaf.Test.{Test}
use Rattle.rule.specs.Tree.{Segment, Rule, letter, negated, both, any, next, until, release}
use Rattle.scale.specs.Laws.{Algebra}
use Rattle.semantics.specs.Positions.{matches}

-- one or the other
abbrev pub Or : Type 0 → Type 0 → Type 0
Or P Q = ((P → ⊥) × (Q → ⊥)) → ⊥

-- for some position
abbrev pub SomePlace : (ℕ → Type 0) → Type 0
SomePlace P = ((j : ℕ) → P j → ⊥) → ⊥

-- i is in the smallest set of positions that agrees with its unrolling: in each set that holds what it unrolls to
abbrev pub Smallest : ((ℕ → Type 0) → ℕ → Type 0) → ℕ → Type 0
Smallest unroll i = (P : ℕ → Bool) → ((k : ℕ) → unroll (λ j. T (P j)) k → T (P k)) → T (P i)

-- i is in the largest such set: in some set that unrolls from what it holds
abbrev pub Largest : ((ℕ → Type 0) → ℕ → Type 0) → ℕ → Type 0
Largest unroll i = ((P : ℕ → Bool) → T (P i) → ((k : ℕ) → T (P k) → unroll (λ j. T (P j)) k) → ⊥) → ⊥

-- U and R of kind E or A stand on the smallest set, of kind e or a on the largest
abbrev pub Lasting : Kind → ((ℕ → Type 0) → ℕ → Type 0) → ℕ → Type 0
Lasting SomeStrong unroll i = Smallest unroll i
Lasting EveryStrong unroll i = Smallest unroll i
Lasting SomeWeak unroll i = Largest unroll i
Lasting EveryWeak unroll i = Largest unroll i

-- value t i is what test t is worth on letter i, for every i
module _ {S : Type 0} (A : Algebra S) (value : Test → ℕ → S) where
  -- the segment reads letters i to j - 1
  abbrev pub Match : Segment → ℕ → ℕ → Type 0
  Match a i j = matches A value a i j ≡ A.best

  -- E and e want some match followed by P, A and a want P after every match
  abbrev pub Next : Kind → Segment → (ℕ → Type 0) → ℕ → Type 0
  Next SomeStrong a P i = SomePlace (λ j. Match a i j × P j)
  Next SomeWeak a P i = SomePlace (λ j. Match a i j × P j)
  Next EveryStrong a P i = (j : ℕ) → Match a i j → P j
  Next EveryWeak a P i = (j : ℕ) → Match a i j → P j

  -- the rule holds at letter i
  unfoldable pub Holds : Rule → ℕ → Type 0
  Holds (letter t) i = value t i ≡ A.best
  Holds (negated r) i = Holds r i → ⊥
  Holds (both r s) i = Holds r i × Holds s i
  Holds (any r s) i = Or (Holds r i) (Holds s i)
  Holds (next k a r) i = Next k a (Holds r) i
  Holds (until k r a s) i = Lasting k (λ P j. Or (Holds s j) (Holds r j × Next k a P j)) i
  Holds (release k r a s) i = Lasting k (λ P j. Holds s j × Or (Holds r j) (Next k a P j)) i
