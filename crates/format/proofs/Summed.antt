-- The tables of built summaries are lawful. Assumes nothing.
use Rattle.std.proofs.Common.{◌≡◌, ℕ, ◌≤◌, false, List, length, sym, ap, ◌∙◌, subst, subst₂}
use Rattle.cells.proofs.Stepping.{step_laws}
use Rattle.cells.proofs.Tables.{table_laws}
use Rattle.cells.specs.Rows.{AllRise}
use Rattle.cells.specs.Tables.{table_of}
use Rattle.format.specs.Bytes.{values_of, LawfulTable}
use Rattle.letter.specs.Heard.{Heard}
use Rattle.runs.proofs.Engine.{engine}
use Rattle.runs.proofs.Holding.{Held, built_held}
use Rattle.runs.proofs.Written.{take_rows, rows_cong, get_d_rows}
use Rattle.runs.specs.Runs.{Built}
use Rattle.runs.specs.States.{State, summary, cells_of_rule, table_size, table_in, rows}
use Rattle.scale.specs.Laws.{Algebra, Lawful, Below}
use Rattle.semantics.specs.Inward.{inward}
use Rattle.std.proofs.lemmas.List.{nil_from_length}

module _ {S : Type 0} {A : Algebra S} where
  -- the rows of a summary are those of its log
  pub values_held : (s : State S) (log : List (Heard S)) → Held A summary s log
      → values_of s ≡ rows (cells_of_rule s.rule) (cells_of_rule s.rule) (table_of A (inward false s.rule) log)
  values_held s log h = take_rows A (cells_of_rule s.rule) (cells_of_rule s.rule) s.buffer h.room
      ∙ rows_cong (cells_of_rule s.rule) (cells_of_rule s.rule) _ _ h.rows

  module _ (L : Lawful A) where
    -- rows written from a table that rises rise
    rows_rise : (n : ℕ) (t : ℕ → ℕ → S) → AllRise A n t → AllRise A n (table_in A n (rows n n t))
    rows_rise n t rise k h c d l m inside =
        subst₂ (Below A) (sym (get_d_rows n n t k c A.worst h l)) (sym (get_d_rows n n t k d A.worst h m)) (rise k h c d l m inside)

    pub built_lawful : (s : State S) (volume : List (Heard S)) → Built A s volume → table_size summary s.rule ≤ length s.buffer
        → LawfulTable A s.rule s.count (values_of s)
    built_lawful s volume built room = record {
      rise = subst (λ values. AllRise A n (table_in A n values)) (sym values)
          (rows_rise n (table_of A (inward false s.rule) volume) ((table_laws L).rises (inward false s.rule) ((step_laws L).driven false s.rule) volume));
      none_read = λ e. values ∙ (ap (λ log. rows n n (table_of A (inward false s.rule) log)) (nil_from_length volume (sym held.counts ∙ e))
          ∙ rows_cong n n _ _ (λ k c h l. (table_laws L).empty_log (inward false s.rule) k c h));
    }
      where
        n : ℕ
        n = cells_of_rule s.rule

        held : Held A summary s volume
        held = built_held (engine L) built room

        values : values_of s ≡ rows n n (table_of A (inward false s.rule) volume)
        values = values_held s volume held
