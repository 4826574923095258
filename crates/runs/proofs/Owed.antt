-- What the calls do to the table of a log: the facts the law of whole runs rests on.
use Rattle.std.proofs.Common.{◌≡◌, ℕ, ◌^◌, ◌<◌, ◌≤◌, false, List, [], ◌∷◌, ◌++◌, length, take}
use Rattle.cells.specs.Tables.{table_of}
use Rattle.letter.specs.Heard.{Heard}
use Rattle.rule.specs.Tree.{Rule}
use Rattle.runs.specs.Calls.{with_letter, with_summary, with_both, told}
use Rattle.runs.specs.States.{State, Form, watch, summary, cells_of_rule, rows_kept, table_size, table, tabled, opened}
use Rattle.scale.specs.Laws.{Algebra}
use Rattle.semantics.specs.Inward.{inward}
use Rattle.semantics.specs.Reports as position

-- the state's table is that of a log
abbrev pub OfLog : {S : Type 0} → Algebra S → Form → State S → List (Heard S) → Type 0
OfLog A form s log = (k corner : ℕ) → k < rows_kept form s.rule → corner < 2 ^ cells_of_rule s.rule
    → table A s k corner ≡ table_of A (inward false s.rule) log k corner

pub record Owed {S : Type 0} (A : Algebra S) : Type 0 where
  -- a table written over a long enough buffer keeps its length
  pub tabled_length : (form : Form) (r : Rule) (t : ℕ → ℕ → S) (buffer : List S) → table_size form r ≤ length buffer
      → length (tabled form r t buffer) ≡ length buffer
  -- opening in a long enough buffer gives the table of the empty log
  pub opened_of : (form : Form) (r : Rule) (buffer : List S) → table_size form r ≤ length buffer → OfLog A form (opened A form r buffer) []
  pub opened_length : (form : Form) (r : Rule) (buffer : List S) → length (opened A form r buffer).buffer ≡ length buffer
  -- a letter adds itself
  pub letter_of : (form : Form) (s : State S) (log : List (Heard S)) (l : Heard S) → table_size form s.rule ≤ length s.buffer
      → OfLog A form s log → OfLog A form (with_letter A form s l) (log ++ l ∷ [])
  -- a summary of the same rule adds its volume
  pub apply_of : (w s : State S) (log volume : List (Heard S)) → s.rule ≡ w.rule → table_size watch w.rule ≤ length w.buffer
      → OfLog A watch w log → OfLog A summary s volume → OfLog A watch (with_summary A w s) (log ++ volume)
  -- two summaries of the third's rule, one after the other
  pub join_of : (first second third : State S) (left right : List (Heard S)) → first.rule ≡ third.rule → second.rule ≡ third.rule
      → table_size summary third.rule ≤ length third.buffer
      → OfLog A summary first left → OfLog A summary second right → OfLog A summary (with_both A first second third) (left ++ right)
  -- what is told is the position rules' report
  pub told_of : (form : Form) (s : State S) (log : List (Heard S)) → 0 < length log → OfLog A form s log
      → told A s ≡ position.report A s.rule log
  -- two states of one rule whose tables are those of one log have the same rows
  pub same_rows : (form : Form) (s t : State S) (log : List (Heard S)) → s.rule ≡ t.rule
      → table_size form s.rule ≤ length s.buffer → table_size form t.rule ≤ length t.buffer
      → OfLog A form s log → OfLog A form t log
      → take (table_size form s.rule) s.buffer ≡ take (table_size form t.rule) t.buffer
