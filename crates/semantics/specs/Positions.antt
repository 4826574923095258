-- The position rules: what a segment and a rule are worth at a position of a log. Assumes nothing.
use Rattle.std.specs.Prelude.{ℕ, zero, suc, ◌-◌, Bool, cond, not, ◌==◌}
use Rattle.rule.specs.declared.leaf.Kind.{Kind}
use Rattle.rule.specs.declared.leaf.Kind.TheVariants.{SomeStrong, SomeWeak, EveryStrong, EveryWeak}
use Rattle.rule.specs.declared.leaf.Test.{Test}
use Rattle.rule.specs.Tree.{Segment, single, either, chain, star, Rule, letter, negated, both, any, next, until, release}
use Rattle.scale.specs.Laws.{Algebra}
use Rattle.semantics.specs.Folds.{join_over, meet_over}
use Rattle.semantics.specs.Marks.{Marks}

-- S(m, i, j): from i to j by any number of steps, each worth m; the bound only makes the recursion end,
-- and any bound of at least j - i gives the same
unfoldable pub paths : {S : Type 0} → Algebra S → ℕ → (ℕ → ℕ → S) → ℕ → ℕ → S
paths A zero m i j = cond (i == j) A.best A.worst
paths A (suc bound) m i j =
    cond (i == j) A.best (join_over A (suc i) (suc j) (λ k. A.meet (m i k) (paths A bound m k j)))

-- S(i, j): best for i = j, otherwise the join over i < k ≤ j of m(i, k) met with S(k, j)
abbrev pub repeats : {S : Type 0} → Algebra S → (ℕ → ℕ → S) → ℕ → ℕ → S
repeats A m i j = paths A (j - i) m i j

-- A is the scale; value t i is what test t is worth on letter i
module _ {S : Type 0} (A : Algebra S) (value : Test → ℕ → S) where
  -- M(α, i, j): the segment reads letters i to j - 1
  unfoldable pub matches : Segment → ℕ → ℕ → S
  matches (single t) i j = cond (j == suc i) (value t i) A.worst
  matches (either a b) i j = A.join (matches a i j) (matches b i j)
  matches (chain a b) i j = join_over A (suc i) j (λ k. A.meet (matches a i k) (matches b k j))
  matches (star a b) i j = join_over A i j (λ k. A.meet (repeats A (matches a) i k) (matches b k j))

  -- n is the length of the log
  module _ (n : ℕ) where
    -- O(α, i): the segment, begun at i, is still open at the log's end
    unfoldable pub open_at : Segment → ℕ → S
    open_at (single t) i = cond (i == n) A.best A.worst
    open_at (either a b) i = cond (i == n) A.best (A.join (open_at a i) (open_at b i))
    open_at (chain a b) i = cond (i == n) A.best
        (A.join (open_at a i) (join_over A (suc i) (suc n) (λ j. A.meet (matches a i j) (open_at b j))))
    open_at (star a b) i = cond (i == n) A.best
        (join_over A i (suc n) (λ j. A.meet (repeats A (matches a) i j) (A.join (open_at a j) (open_at b j))))

    -- some match of the segment from i on ends where after holds, or it is open and the mark counts
    abbrev pub some_match : Segment → (ℕ → S) → S → ℕ → S
    some_match a after mark i =
        A.join (join_over A (suc i) (suc n) (λ j. A.meet (matches a i j) (after j))) (A.meet (open_at a i) mark)

    -- after holds where any match of the segment from i on ends, and if it is open the mark counts
    abbrev pub every_match : Segment → (ℕ → S) → S → ℕ → S
    every_match a after mark i =
        A.meet (meet_over A (suc i) (suc n) (λ j. A.join (A.opposite (matches a i j)) (after j))) (A.join (A.opposite (open_at a i)) mark)

    -- what comes after a match: where the match ends with the log, the mark
    abbrev pub ended : (ℕ → S) → S → ℕ → S
    ended after mark j = cond (j == n) mark (after j)

    -- E and e want some match, A and a every match
    abbrev pub next_of : Kind → Segment → (ℕ → S) → S → ℕ → S
    next_of SomeStrong a after mark i = some_match a (ended after mark) mark i
    next_of SomeWeak a after mark i = some_match a (ended after mark) mark i
    next_of EveryStrong a after mark i = every_match a (ended after mark) mark i
    next_of EveryWeak a after mark i = every_match a (ended after mark) mark i

    -- the until: the goal, or the hold and a next to the until itself; the bound only makes the recursion
    -- end, and any bound of at least n - i gives the same
    unfoldable pub until_from : ℕ → Kind → Segment → (ℕ → S) → (ℕ → S) → S → ℕ → S
    until_from zero k a hold goal mark i = A.worst
    until_from (suc bound) k a hold goal mark i =
        A.join (goal i) (A.meet (hold i) (next_of k a (until_from bound k a hold goal mark) mark i))

    -- the release: the until with join and meet exchanged
    unfoldable pub release_from : ℕ → Kind → Segment → (ℕ → S) → (ℕ → S) → S → ℕ → S
    release_from zero k a hold goal mark i = A.worst
    release_from (suc bound) k a hold goal mark i =
        A.meet (goal i) (A.join (hold i) (next_of k a (release_from bound k a hold goal mark) mark i))

    -- V(rule, i), for i below n; the flag says that the rule stands under an odd number of `!`
    unfoldable pub worth : Marks S → Bool → Rule → ℕ → S
    worth mark odd (letter t) i = value t i
    worth mark odd (negated r) i = A.opposite (worth mark (not odd) r i)
    worth mark odd (both r s) i = A.meet (worth mark odd r i) (worth mark odd s i)
    worth mark odd (any r s) i = A.join (worth mark odd r i) (worth mark odd s i)
    worth mark odd (next k a r) i = next_of k a (worth mark odd r) (mark odd k) i
    worth mark odd (until k r a s) i = until_from (n - i) k a (worth mark odd r) (worth mark odd s) (mark odd k) i
    worth mark odd (release k r a s) i = release_from (n - i) k a (worth mark odd r) (worth mark odd s) (mark odd k) i
