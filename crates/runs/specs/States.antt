-- Watches and summaries, seen from outside. A watch reads a log's letters in order and reports after each; a summary does
-- this for a volume, a stretch of log whose beginning it does not know. Assumes nothing.
use Rattle.std.specs.Prelude.{ℕ, zero, suc, ◌+◌, ◌*◌, ◌^◌, Bool, false, cond, List, [], ◌∷◌, ◌++◌, length, drop, nat_lt, slice_index_or}
use Rattle.cells.specs.Rows.{empty}
use Rattle.cells.specs.Step.{cell_count}
use Rattle.rule.specs.Tree.{Rule}
use Rattle.scale.specs.Laws.{Algebra}
use Rattle.semantics.specs.Inward.{inward}

-- the rule it was opened for, how many letters it has read, and what the caller's buffer holds
pub record State (S : Type 0) : Type 0 where
  pub rule : Rule
  pub count : ℕ
  pub buffer : List S

-- a watch keeps row 0 alone, a summary a row for each cell
pub data Form : Type 0 where
  watch : Form
  summary : Form

-- how many cells a rule has
abbrev pub cells_of_rule : Rule → ℕ
cells_of_rule r = cell_count (inward false r)

abbrev pub rows_kept : Form → Rule → ℕ
rows_kept watch r = 1
rows_kept summary r = cells_of_rule r

-- how many values the table has: a row has one for each corner
abbrev pub table_size : Form → Rule → ℕ
table_size form r = rows_kept form r * 2 ^ cells_of_rule r

-- the buffer is too short for the table
abbrev pub short : {S : Type 0} → Form → State S → Bool
short form s = nat_lt (length s.buffer) (table_size form s.rule)

-- row k at a corner, of a table of n cells at the front of a buffer
abbrev pub table_in : {S : Type 0} → Algebra S → ℕ → List S → ℕ → ℕ → S
table_in A n buffer k corner = slice_index_or buffer (k * 2 ^ n + corner) A.worst

-- a state's table
abbrev pub table : {S : Type 0} → Algebra S → State S → ℕ → ℕ → S
table A s = table_in A (cells_of_rule s.rule) s.buffer

-- the values of f at 0 to n - 1
abbrev pub listing : {S : Type 0} → ℕ → (ℕ → S) → List S
listing zero f = []
listing (suc n) f = listing n f ++ f n ∷ []

-- the first k rows of a table of n cells, one after the other
unfoldable pub rows : {S : Type 0} → ℕ → ℕ → (ℕ → ℕ → S) → List S
rows n zero t = []
rows n (suc k) t = rows n k t ++ listing (2 ^ n) (t k)

-- the table written over the front of a buffer; the places beyond it stay
abbrev pub tabled : {S : Type 0} → Form → Rule → (ℕ → ℕ → S) → List S → List S
tabled form r t buffer = rows (cells_of_rule r) (rows_kept form r) t ++ drop (table_size form r) buffer

-- opening writes the empty volume and count 0; in a buffer too short it writes nothing
abbrev pub opened : {S : Type 0} → Algebra S → Form → Rule → List S → State S
opened A form r buffer = record {
  rule = r;
  count = 0;
  buffer = cond (nat_lt (length buffer) (table_size form r)) buffer (tabled form r (empty A) buffer);
}
