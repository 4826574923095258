-- The cells of a rule, and each cell before a letter from the cells after it. A cell is a value that has to be known after
-- a letter to know the rule before it. Assumes nothing.
use Rattle.std.specs.Prelude.{ℕ, suc, ◌+◌, Bool, true, false, cond, List, [], ◌∷◌, ◌++◌, Some, None, Option}
use Rattle.cells.specs.Shape.{tests, firsts, endings, followers, with_cell}
use Rattle.rule.specs.declared.leaf.Kind.{Kind}
use Rattle.rule.specs.declared.leaf.Kind.TheVariants.{SomeStrong, SomeWeak, EveryStrong, EveryWeak}
use Rattle.rule.specs.declared.leaf.Test.{Test}
use Rattle.rule.specs.Tree.{Segment, Rule, letter, negated, both, any, next, until, release}
use Rattle.scale.specs.Laws.{Algebra}

abbrev pub count_set : List Bool → ℕ
count_set [] = 0
count_set (true ∷ xs) = suc (count_set xs)
count_set (false ∷ xs) = count_set xs

-- how many tests of a segment have a cell
abbrev pub test_cells : Segment → ℕ
test_cells a = count_set (with_cell a)

-- the cells of a rule beside cell 0: one for each next, U and R, and one for each segment test with a follower
unfoldable pub inner_cells : Rule → ℕ
inner_cells (letter t) = 0
inner_cells (negated r) = inner_cells r
inner_cells (both r s) = inner_cells r + inner_cells s
inner_cells (any r s) = inner_cells r + inner_cells s
inner_cells (next k a r) = suc (test_cells a + inner_cells r)
inner_cells (until k r a s) = suc (inner_cells r + (test_cells a + inner_cells s))
inner_cells (release k r a s) = suc (inner_cells r + (test_cells a + inner_cells s))

-- all cells: cell 0 is the whole rule
abbrev pub cell_count : Rule → ℕ
cell_count r = suc (inner_cells r)

-- does a kind want every match
abbrev pub wants_every : Kind → Bool
wants_every SomeStrong = false
wants_every SomeWeak = false
wants_every EveryStrong = true
wants_every EveryWeak = true

-- A is the scale, value what each test is worth on the letter, after the cells' values after it
module _ {S : Type 0} (A : Algebra S) (value : Test → S) (after : ℕ → S) where
  -- the cell of each test that has one, numbered in text order from base on
  abbrev pub dealt : List Bool → ℕ → List (Option S)
  dealt [] base = []
  dealt (true ∷ has) base = Some (after base) ∷ dealt has (suc base)
  dealt (false ∷ has) base = None ∷ dealt has base

  -- for E and e: a test's cell, if any, joined with the operator's cell, if the test is ending
  abbrev pub some_after : S → Option S → Bool → S
  some_after operator (Some c) true = A.join c operator
  some_after operator (Some c) false = c
  some_after operator None true = operator
  some_after operator None false = A.worst

  -- for A and a: the meet of the same two
  abbrev pub every_after : S → Option S → Bool → S
  every_after operator (Some c) true = A.meet c operator
  every_after operator (Some c) false = c
  every_after operator None true = operator
  every_after operator None false = A.best

  -- E and e join, over the picked tests, the test's value met with what comes after it
  abbrev pub some_of : S → List Bool → List Test → List (Option S) → List Bool → S
  some_of operator [] ts cells ends = A.worst
  some_of operator (p ∷ picked) [] cells ends = A.worst
  some_of operator (p ∷ picked) (t ∷ ts) [] ends = A.worst
  some_of operator (p ∷ picked) (t ∷ ts) (c ∷ cells) [] = A.worst
  some_of operator (p ∷ picked) (t ∷ ts) (c ∷ cells) (e ∷ ends) =
      A.join (cond p (A.meet (value t) (some_after operator c e)) A.worst) (some_of operator picked ts cells ends)

  -- A and a meet, over the picked tests, the opposite of the test's value joined with what comes after it
  abbrev pub every_of : S → List Bool → List Test → List (Option S) → List Bool → S
  every_of operator [] ts cells ends = A.best
  every_of operator (p ∷ picked) [] cells ends = A.best
  every_of operator (p ∷ picked) (t ∷ ts) [] ends = A.best
  every_of operator (p ∷ picked) (t ∷ ts) (c ∷ cells) [] = A.best
  every_of operator (p ∷ picked) (t ∷ ts) (c ∷ cells) (e ∷ ends) =
      A.meet (cond p (A.join (A.opposite (value t)) (every_after operator c e)) A.best) (every_of operator picked ts cells ends)

  -- a next over the picked tests of a segment, whose operator has cell number op and whose test cells begin at base
  abbrev pub over_picked : Kind → Segment → ℕ → ℕ → List Bool → S
  over_picked k a op base picked =
      cond (wants_every k)
      (every_of (after op) picked (tests a) (dealt (with_cell a) base) (endings a))
      (some_of (after op) picked (tests a) (dealt (with_cell a) base) (endings a))

  -- a next: over the first tests of its segment
  abbrev pub next_before : Kind → Segment → ℕ → ℕ → S
  next_before k a op base = over_picked k a op base (firsts a)

  -- the cells of a segment's tests: each over the test's followers
  abbrev pub followed_by : Kind → Segment → ℕ → ℕ → List Bool → List (List Bool) → List S
  followed_by k a op base [] rows = []
  followed_by k a op base (true ∷ has) [] = []
  followed_by k a op base (false ∷ has) [] = []
  followed_by k a op base (true ∷ has) (row ∷ rows) = over_picked k a op base row ∷ followed_by k a op base has rows
  followed_by k a op base (false ∷ has) (row ∷ rows) = followed_by k a op base has rows

  abbrev pub tests_before : Kind → Segment → ℕ → ℕ → List S
  tests_before k a op base = followed_by k a op base (with_cell a) (followers a)

  -- a rule before the letter, its cells numbered from base on
  unfoldable pub before : Rule → ℕ → S
  before (letter t) base = value t
  before (negated r) base = A.opposite (before r base)
  before (both r s) base = A.meet (before r base) (before s (base + inner_cells r))
  before (any r s) base = A.join (before r base) (before s (base + inner_cells r))
  before (next k a r) base = next_before k a base (suc base)
  before (until k r a s) base =
      A.join (before s (suc base + inner_cells r + test_cells a))
      (A.meet (before r (suc base)) (next_before k a base (suc base + inner_cells r)))
  before (release k r a s) base =
      A.meet (before s (suc base + inner_cells r + test_cells a))
      (A.join (before r (suc base)) (next_before k a base (suc base + inner_cells r)))

  -- the cells of a rule before the letter, in text order: of a next, what comes after a match; of U and R, itself
  unfoldable pub befores : Rule → ℕ → List S
  befores (letter t) base = []
  befores (negated r) base = befores r base
  befores (both r s) base = befores r base ++ befores s (base + inner_cells r)
  befores (any r s) base = befores r base ++ befores s (base + inner_cells r)
  befores (next k a r) base =
      before r (suc base + test_cells a) ∷ (tests_before k a base (suc base) ++ befores r (suc base + test_cells a))
  befores (until k r a s) base =
      before (until k r a s) base
      ∷ (befores r (suc base) ++ (tests_before k a base (suc base + inner_cells r) ++ befores s (suc base + inner_cells r + test_cells a)))
  befores (release k r a s) base =
      before (release k r a s) base
      ∷ (befores r (suc base) ++ (tests_before k a base (suc base + inner_cells r) ++ befores s (suc base + inner_cells r + test_cells a)))

  -- all cells before the letter; the rule has no `!`
  abbrev pub step : Rule → List S
  step r = before r 1 ∷ befores r 1

-- the same mark so many times
abbrev pub marked : {S : Type 0} → S → List Bool → List S
marked m [] = []
marked m (true ∷ has) = m ∷ marked m has
marked m (false ∷ has) = marked m has

-- the cells at the log's end: of a next, a U or an R its mark, of a test its operator's
unfoldable pub inner_marks : {S : Type 0} → (Kind → S) → Rule → List S
inner_marks mark (letter t) = []
inner_marks mark (negated r) = inner_marks mark r
inner_marks mark (both r s) = inner_marks mark r ++ inner_marks mark s
inner_marks mark (any r s) = inner_marks mark r ++ inner_marks mark s
inner_marks mark (next k a r) = mark k ∷ (marked (mark k) (with_cell a) ++ inner_marks mark r)
inner_marks mark (until k r a s) = mark k ∷ (inner_marks mark r ++ (marked (mark k) (with_cell a) ++ inner_marks mark s))
inner_marks mark (release k r a s) = mark k ∷ (inner_marks mark r ++ (marked (mark k) (with_cell a) ++ inner_marks mark s))

-- cell 0 ends with a value of its own
abbrev pub end_marks : {S : Type 0} → S → (Kind → S) → Rule → List S
end_marks whole mark r = whole ∷ inner_marks mark r
