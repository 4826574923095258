-- The equations that the position rules keep: the rules themselves with no bound on a recursion, and what a
-- segment with a continuation is worth. Assumes nothing.
use Rattle.std.specs.Prelude.{◌≡◌, ℕ, suc, ◌<◌, Bool}
use Rattle.rule.specs.declared.leaf.Kind.{Kind}
use Rattle.rule.specs.declared.leaf.Test.{Test}
use Rattle.rule.specs.Tree.{Segment, single, either, chain, star, Rule, until, release}
use Rattle.scale.specs.Laws.{Algebra}
use Rattle.semantics.specs.Folds.{join_over}
use Rattle.semantics.specs.Marks.{Marks}
use Rattle.semantics.specs.Positions.{repeats, some_match, every_match, next_of, worth}

-- any number of steps from i to j: none where i = j, otherwise a first one and then the others
pub record Repeated {S : Type 0} (A : Algebra S) (m : ℕ → ℕ → S) : Type 0 where
  pub none : (i : ℕ) → repeats A m i i ≡ A.best
  pub more : (i j : ℕ) → i < j → repeats A m i j ≡ join_over A (suc i) (suc j) (λ k. A.meet (m i k) (repeats A m k j))

module _ {S : Type 0} (A : Algebra S) (value : Test → ℕ → S) (n : ℕ) where
  -- U is the goal joined with (the hold met with a next to itself); R exchanges join and meet
  pub record Unrolled (mark : Marks S) (odd : Bool) (k : Kind) (hold : Rule) (a : Segment) (goal : Rule) (i : ℕ) : Type 0 where
    pub until_is : worth A value n mark odd (until k hold a goal) i
        ≡ A.join (worth A value n mark odd goal i) (A.meet (worth A value n mark odd hold i)
        (next_of A value n k a (worth A value n mark odd (until k hold a goal)) (mark odd k) i))
    pub release_is : worth A value n mark odd (release k hold a goal) i
        ≡ A.meet (worth A value n mark odd goal i) (A.join (worth A value n mark odd hold i)
        (next_of A value n k a (worth A value n mark odd (release k hold a goal)) (mark odd k) i))

  -- the segment from i on and then the continuation, whose value at the log's end is its mark
  abbrev pub onward : Segment → (ℕ → S) → ℕ → S
  onward a then i = some_match A value n a then (then n) i

  -- the five equations of a segment with a continuation, and the exchange of some and every
  pub record Onward (then : ℕ → S) : Type 0 where
    pub at_end : (a : Segment) → onward a then n ≡ then n
    pub by_test : (t : Test) (i : ℕ) → i < n → onward (single t) then i ≡ A.meet (value t i) (then (suc i))
    pub by_either : (a b : Segment) (i : ℕ) → i < n → onward (either a b) then i ≡ A.join (onward a then i) (onward b then i)
    pub by_chain : (a b : Segment) (i : ℕ) → i < n → onward (chain a b) then i ≡ onward a (onward b then) i
    pub by_star : (a b : Segment) (i : ℕ) → i < n
        → onward (star a b) then i ≡ A.join (onward b then i) (onward a (onward (star a b) then) i)
    pub by_opposite : (a : Segment) (i : ℕ)
        → every_match A value n a then (then n) i ≡ A.opposite (onward a (λ j. A.opposite (then j)) i)

-- all of this, on every log
pub record Ground {S : Type 0} (A : Algebra S) : Type 0 where
  pub repeated : (m : ℕ → ℕ → S) → Repeated A m
  pub unrolled : (value : Test → ℕ → S) (n : ℕ) (mark : Marks S) (odd : Bool) (k : Kind) (hold : Rule) (a : Segment) (goal : Rule) (i : ℕ)
      → i < n → Unrolled A value n mark odd k hold a goal i
  pub onwards : (value : Test → ℕ → S) (n : ℕ) (then : ℕ → S) → Onward A value n then
