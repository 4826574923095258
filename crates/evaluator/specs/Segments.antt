-- What the table of a segment, a next and the row of a rule hold. Assumes nothing.
use Rattle.std.specs.Prelude.{◌≡◌, ℕ, suc, ◌<◌, List, length, vec_items}
use Rattle.letter.specs.Heard.{Heard}
use Rattle.rule.specs.declared.leaf.Kind.{Kind}
use Rattle.rule.specs.Tree.{Segment, Rule}
use Rattle.scale.specs.Laws.{Algebra}
use Rattle.evaluator.specs.declared.mark.Marking.{Marking}
use Rattle.evaluator.specs.declared.next.Next.{Next}
use Rattle.evaluator.specs.declared.table.Table.{Table}
use Rattle.evaluator.specs.Markings.{marks_of}
use Rattle.evaluator.specs.Parts.{next_part}
use Rattle.semantics.specs.Positions.{matches, open_at, worth}
use Rattle.semantics.specs.Reports.{value_on}
use Rattle.evaluator.specs.Tables.{entry, cell, Rowed, Gridded}

-- what a table holds: from one position to another, and whether it is open at a position
abbrev pub matched : {S : Type 0} → Algebra S → Table S → ℕ → ℕ → S
matched A table = cell A table.matches

abbrev pub opened : {S : Type 0} → Algebra S → Table S → ℕ → S
opened A table = entry A (vec_items table.opened)

-- on a log of n letters the table holds the matches m and the openings o
pub record Tabled {S : Type 0} (A : Algebra S) (n : ℕ) (m : ℕ → ℕ → S) (o : ℕ → S) (table : Table S) : Type 0 where
  pub matching : Gridded A (suc n) m table.matches
  pub opening : Rowed A (suc n) o (vec_items table.opened)

-- the table holds what the segment is worth on the log
abbrev pub Segmented : {S : Type 0} → Algebra S → List (Heard S) → Segment → Table S → Type 0
Segmented A log a table = Tabled A (length log) (matches A (value_on A log) a) (open_at A (value_on A log) (length log) a) table

-- what a next on a log of n letters is worth at position i, if what comes after has these values
abbrev pub next_is : {S : Type 0} → Algebra S → Next S → ℕ → (ℕ → S) → ℕ → S
next_is A next n after i = next_part A next.kind n (matched A next.table) (opened A next.table) after next.mark i

-- the next is of the kind, over the segment, with its mark
pub record Nexted {S : Type 0} (A : Algebra S) (marking : Marking) (log : List (Heard S)) (kind : Kind) (a : Segment) (next : Next S) : Type 0 where
  pub kinded : next.kind ≡ kind
  pub tabled : Segmented A log a next.table
  pub marked : next.mark ≡ marks_of A marking.value marking.odd kind

-- the row holds what the rule is worth on the log
abbrev pub Ruled : {S : Type 0} → Algebra S → Marking → List (Heard S) → Rule → List S → Type 0
Ruled A marking log r row = Rowed A (length log) (worth A (value_on A log) (length log) (marks_of A marking.value) marking.odd r) row

-- the row has a value for each of the n letters, made of the goal's, the hold's and that of the next to the row itself
pub record Turning {S : Type 0} (A : Algebra S) (turn : S → S → S → S) (next : Next S) (n : ℕ) (hold goal row : List S) : Type 0 where
  pub sized : length row ≡ n
  pub turns : (i : ℕ) → i < n → entry A row i ≡ turn (entry A goal i) (entry A hold i) (next_is A next n (entry A row) i)
