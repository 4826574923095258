-- A segment before a letter by one walk that carries what may follow: the way the code goes. Assumes nothing.
use Rattle.std.specs.Prelude.{◌≡◌, ℕ, ◌+◌, ◌<◌, Bool, true, false, cond, Some, None, Option, nat_lt, slice_index_or}
use Rattle.cells.specs.Step.{some_after, every_after, wants_every, next_before, tests_before, test_cells}
use Rattle.rule.specs.declared.leaf.Kind.{Kind}
use Rattle.rule.specs.declared.leaf.Test.{Test}
use Rattle.rule.specs.Tree.{Segment, single, either, chain, star}
use Rattle.scale.specs.Laws.{Algebra}

-- how many tests of a segment have a cell; inside says that a test around it may follow its last letter
abbrev pub cells_in : Segment → Bool → ℕ
cells_in (single t) inside = cond inside 1 0
cells_in (either a b) inside = cells_in a inside + cells_in b inside
cells_in (chain a b) inside = cells_in a true + cells_in b inside
cells_in (star a b) inside = cells_in a true + cells_in b inside

-- A is the scale, value what each test is worth on the letter, after the cells' values after it, op the operator's cell
module _ {S : Type 0} (A : Algebra S) (value : Test → S) (after : ℕ → S) (op : ℕ) where
  -- some match joins, every match meets
  abbrev pub plus : Bool → S → S → S
  plus false x y = A.join x y
  plus true x y = A.meet x y

  -- one test and what comes after it: its cell, if it is inside, and the operator's, if it ends the match
  abbrev pub one_test : Bool → Test → Option S → Bool → S
  one_test false t cell ends = A.meet (value t) (some_after A value after (after op) cell ends)
  one_test true t cell ends = A.join (A.opposite (value t)) (every_after A value after (after op) cell ends)

  abbrev pub cell_if : Bool → ℕ → Option S
  cell_if false base = None
  cell_if true base = Some (after base)

  -- a segment's first tests; ends says that its last letter may end the match, and its cells begin at base
  unfoldable pub enter : Bool → Segment → Bool → Bool → ℕ → S
  enter every (single t) inside ends base = one_test every t (cell_if inside base) ends
  enter every (either a b) inside ends base = plus every (enter every a inside ends base) (enter every b inside ends (base + cells_in a inside))
  enter every (chain a b) inside ends base = enter every a true false base
  enter every (star a b) inside ends base = plus every (enter every a true false base) (enter every b inside ends (base + cells_in a true))

  -- cell k of a segment's tests, where follows is what the tests around it give that may follow its last letter
  unfoldable pub follow_at : Bool → Segment → S → Bool → Bool → ℕ → ℕ → S
  follow_at every (single t) follows inside ends base k = follows
  follow_at every (either a b) follows inside ends base k =
      cond (nat_lt k (base + cells_in a inside)) (follow_at every a follows inside ends base k)
      (follow_at every b follows inside ends (base + cells_in a inside) k)
  follow_at every (chain a b) follows inside ends base k =
      cond (nat_lt k (base + cells_in a true)) (follow_at every a (enter every b inside ends (base + cells_in a true)) true false base k)
      (follow_at every b follows inside ends (base + cells_in a true) k)
  follow_at every (star a b) follows inside ends base k =
      cond (nat_lt k (base + cells_in a true)) (follow_at every a (enter every (star a b) inside ends base) true false base k)
      (follow_at every b follows inside ends (base + cells_in a true) k)

-- the walk gives the joins and meets over first tests and over followers
pub record Walked {S : Type 0} (A : Algebra S) : Type 0 where
  pub counted : (a : Segment) → cells_in a false ≡ test_cells a
  pub entered : (value : Test → S) (after : ℕ → S) (op : ℕ) (k : Kind) (a : Segment) (base : ℕ)
      → enter A value after op (wants_every k) a false true base ≡ next_before A value after k a op base
  pub followed : (value : Test → S) (after : ℕ → S) (op : ℕ) (k : Kind) (a : Segment) (base j : ℕ) → j < test_cells a
      → follow_at A value after op (wants_every k) a A.worst false true base (base + j) ≡ slice_index_or (tests_before A value after k a op base) j A.worst
