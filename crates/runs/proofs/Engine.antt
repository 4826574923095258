-- The table of a log under the calls: opening, letters, summaries applied and joined, and what is told. Assumes nothing.
use Rattle.std.proofs.Common.{◌≡◌, ℕ, suc, ◌+◌, ◌-◌, ◌*◌, ◌^◌, ◌<◌, ◌≤◌, Bool, true, false, ltb, List, [], ◌∷◌, ◌++◌, length, get_or, take, replicate, sym, refl, ap, ◌∙◌, subst, ap₂, arith}
use Rattle.cells.proofs.Blends.{smooth_same}
use Rattle.cells.proofs.Ends.{marks_length}
use Rattle.cells.proofs.Halves.{at_halved, halved_smooth, halved_same}
use Rattle.cells.proofs.Rows.{row_laws}
use Rattle.cells.proofs.Stepping.{step_laws, stepping}
use Rattle.cells.proofs.Tables.{table_laws}
use Rattle.cells.specs.Meaning.{steps}
use Rattle.cells.specs.Rows.{at, empty, followed}
use Rattle.cells.specs.Shape.{with_cell}
use Rattle.cells.specs.Step.{count_set, inner_cells, cell_count, marked, inner_marks, end_marks}
use Rattle.cells.specs.Tables.{table_of}
use Rattle.letter.specs.Heard.{Heard}
use Rattle.rule.specs.declared.leaf.Kind.{Kind}
use Rattle.rule.specs.Tree.{Rule, letter, negated, both, any, next, until, release}
use Rattle.runs.proofs.Owed.{OfLog, Owed}
use Rattle.runs.proofs.Written.{take_rows, rows_cong, tabled_in, length_tabled}
use Rattle.runs.specs.Calls.{with_letter, with_summary, with_both, told}
use Rattle.runs.specs.States.{State, Form, watch, summary, cells_of_rule, rows_kept, table_size, table, rows, tabled, opened}
use Rattle.scale.specs.Laws.{Algebra, Lawful}
use Rattle.semantics.specs.Inward.{inward}
use Rattle.semantics.specs.Marks.{mark_of}
use Rattle.semantics.specs.Reports as position
use Rattle.std.proofs.lemmas.Nat.{pow_pos}
use Rattle.std.proofs.lemmas.List.{get_or-replicate, replicate-append-replicate}
use Rattle.std.proofs.lemmas.Bool.{cond_both, cond-false, ltb-false, le-ltb}

-- a rule at the log's end where every mark is m
module _ {S : Type 0} (m : S) where
  marked_same : (has : List Bool) → marked m has ≡ replicate (count_set has) m
  marked_same [] = refl
  marked_same (true ∷ has) = ap (λ xs. m ∷ xs) (marked_same has)
  marked_same (false ∷ has) = marked_same has

  append_same : (a b : ℕ) (xs ys : List S) → xs ≡ replicate a m → ys ≡ replicate b m → xs ++ ys ≡ replicate (a + b) m
  append_same a b xs ys p q = ap₂ ◌++◌ p q ∙ replicate-append-replicate a b m

  marks_same : (r : Rule) → inner_marks (λ k. m) r ≡ replicate (inner_cells r) m
  unfolding inner_marks inner_cells
  marks_same (letter t) = refl
  marks_same (negated r) = marks_same r
  marks_same (both r s) = append_same _ _ _ _ (marks_same r) (marks_same s)
  marks_same (any r s) = append_same _ _ _ _ (marks_same r) (marks_same s)
  marks_same (next k a r) = ap (λ xs. m ∷ xs) (append_same _ _ _ _ (marked_same (with_cell a)) (marks_same r))
  marks_same (until k r a s) =
      ap (λ xs. m ∷ xs) (append_same _ _ _ _ (marks_same r) (append_same _ _ _ _ (marked_same (with_cell a)) (marks_same s)))
  marks_same (release k r a s) =
      ap (λ xs. m ∷ xs) (append_same _ _ _ _ (marks_same r) (append_same _ _ _ _ (marked_same (with_cell a)) (marks_same s)))

  ends_same : (r : Rule) (k : ℕ) (d : S) → k < cell_count r → get_or (end_marks m (λ kind. m) r) k d ≡ m
  ends_same r k d h = ap (λ xs. get_or (m ∷ xs) k d) (marks_same r) ∙ get_or-replicate (cell_count r) k m d h

-- the rows kept are rows of the table
kept_within : (form : Form) (r : Rule) (k : ℕ) → k < rows_kept form r → k < cells_of_rule r
kept_within watch r k h = omega arith
kept_within summary r k h = h

first_kept : (form : Form) (r : Rule) → 0 < rows_kept form r
first_kept watch r = omega arith
first_kept summary r = omega arith

abbrev three : {S : Type 0} → S → S → S → S × S × S
three x y z = (x, y, z)

module _ {S : Type 0} {A : Algebra S} (L : Lawful A) where
  -- a row counts only at its corners, and at values of its cells
  pub at_same : (n : ℕ) (row other v w : ℕ → S) → ((c : ℕ) → c < 2 ^ n → row c ≡ other c) → ((k : ℕ) → k < n → v k ≡ w k)
      → at A n row v ≡ at A n other w
  at_same n row other v w rows_agree cells_agree = at_halved A L n row v ∙ (halved_same L n row other v rows_agree
      ∙ (smooth_same L (halved_smooth L n other) v w cells_agree ∙ sym (at_halved A L n other w)))

  -- a written table that follows from those of two logs is that of the two logs together
  written_of : (form : Form) (r : Rule) (buffer : List S) (P Q : ℕ → ℕ → S) (left right : List (Heard S))
      → ((k c : ℕ) → k < rows_kept form r → c < 2 ^ cells_of_rule r → P k c ≡ table_of A (inward false r) left k c)
      → ((k c : ℕ) → k < cells_of_rule r → c < 2 ^ cells_of_rule r → Q k c ≡ table_of A (inward false r) right k c)
      → (k c : ℕ) → k < rows_kept form r → c < 2 ^ cells_of_rule r
      → get_or (tabled form r (followed A (cells_of_rule r) P Q) buffer) (k * 2 ^ cells_of_rule r + c) A.worst ≡ table_of A (inward false r) (left ++ right) k c
  written_of form r buffer P Q left right p q k c h l =
      tabled_in A form r (followed A (cells_of_rule r) P Q) buffer k c h l
      ∙ (at_same (cells_of_rule r) _ _ _ _ (λ d m. p k d h m) (λ j m. q j c m l)
      ∙ sym ((table_laws L).joined (inward false r) ((step_laws L).driven false r) left right k c (kept_within form r k h) l))

  opened_of : (form : Form) (r : Rule) (buffer : List S) → table_size form r ≤ length buffer → OfLog A form (opened A form r buffer) []
  opened_of form r buffer long k c h l =
      ap (λ xs. get_or xs (k * 2 ^ cells_of_rule r + c) A.worst) (cond-false _ _ _ (le-ltb (length buffer) (table_size form r) long))
      ∙ (tabled_in A form r (empty A) buffer k c h l ∙ sym ((table_laws L).empty_log (inward false r) k c (kept_within form r k h)))

  opened_length : (form : Form) (r : Rule) (buffer : List S) → length (opened A form r buffer).buffer ≡ length buffer
  opened_length form r buffer = cond_both (ltb (length buffer) (table_size form r)) buffer (tabled form r (empty A) buffer)
      (λ xs. length xs ≡ length buffer) (λ e. refl) (λ e. length_tabled form r (empty A) buffer (ltb-false (length buffer) (table_size form r) e))

  letter_of : (form : Form) (s : State S) (log : List (Heard S)) (l : Heard S)
      → OfLog A form s log → OfLog A form (with_letter A form s l) (log ++ l ∷ [])
  letter_of form s log l of_log =
      written_of form s.rule s.buffer (table A s) (table_of A (inward false s.rule) (l ∷ [])) log (l ∷ []) of_log (λ k c h m. refl)

  -- a state's table is that of its log, by any other name of its rule
  of_rule : (form : Form) (s : State S) (r : Rule) (log : List (Heard S)) → s.rule ≡ r → OfLog A form s log
      → (k c : ℕ) → k < rows_kept form r → c < 2 ^ cells_of_rule r → table A s k c ≡ table_of A (inward false r) log k c
  of_rule form s r log e of_log = subst
      (λ own. (k c : ℕ) → k < rows_kept form own → c < 2 ^ cells_of_rule own → table A s k c ≡ table_of A (inward false own) log k c) e of_log

  apply_of : (w s : State S) (log volume : List (Heard S)) → s.rule ≡ w.rule
      → OfLog A watch w log → OfLog A summary s volume → OfLog A watch (with_summary A w s) (log ++ volume)
  apply_of w s log volume e of_log of_volume =
      written_of watch w.rule w.buffer (table A w) (table A s) log volume of_log (of_rule summary s w.rule volume e of_volume)

  join_of : (first second third : State S) (left right : List (Heard S)) → first.rule ≡ third.rule → second.rule ≡ third.rule
      → OfLog A summary first left → OfLog A summary second right → OfLog A summary (with_both A first second third) (left ++ right)
  join_of first second third left right e f of_left of_right =
      written_of summary third.rule third.buffer (table A first) (table A second) left right
      (of_rule summary first third.rule left e of_left) (of_rule summary second third.rule right f of_right)

  -- cell 0 before a log, from marks at its end, is row 0 of its table at the marks
  module _ (r : Rule) (log : List (Heard S)) where
    abbrev n : ℕ
    n = cells_of_rule r

    abbrev row : ℕ → S
    row = table_of A (inward false r) log 0

    from_marks : (whole : S) (mark : Kind → S) → get_or (steps A (inward false r) log (end_marks whole mark (inward false r))) 0 A.worst
        ≡ at A n row (λ j. get_or (end_marks whole mark (inward false r)) j A.worst)
    from_marks whole mark = (table_laws L).determined (inward false r) ((step_laws L).driven false r) log (end_marks whole mark (inward false r))
        (ap suc (marks_length mark whole (inward false r))) 0 (omega arith)

    from_same : (m : S) → get_or (steps A (inward false r) log (end_marks m (λ k. m) (inward false r))) 0 A.worst ≡ at A n row (λ k. m)
    from_same m = from_marks m (λ k. m) ∙ at_same n _ _ _ _ (λ c h. refl) (λ k h. ends_same m (inward false r) k A.worst h)

    module _ (some : 0 < length log) where
      verdict_told : at A n row (λ j. get_or (end_marks A.pending (mark_of A) (inward false r)) j A.worst) ≡ position.verdict A r log
      verdict_told = sym (from_marks A.pending (mark_of A)) ∙ sym (stepping L r log some).verdict_is

      floor_told : row 0 ≡ position.floor A r log
      floor_told = sym ((row_laws L n).at_worst row) ∙ (sym (from_same A.worst) ∙ sym (stepping L r log some).floor_is)

      ceiling_told : row (2 ^ n - 1) ≡ position.ceiling A r log
      ceiling_told = sym ((row_laws L n).at_best row ((table_laws L).rises (inward false r) ((step_laws L).driven false r) log 0 (omega arith))
          (2 ^ n - 1) (omega (arith, pow_pos n)))
          ∙ (sym (from_same A.best) ∙ sym (stepping L r log some).ceiling_is)

  told_of : (form : Form) (s : State S) (log : List (Heard S)) → 0 < length log → OfLog A form s log
      → told A s ≡ position.report A s.rule log
  told_of form s log some of_log =
      let n : ℕ = cells_of_rule s.rule in
      let own : (c : ℕ) → c < 2 ^ n → table A s 0 c ≡ table_of A (inward false s.rule) log 0 c = λ c h. of_log 0 c (first_kept form s.rule) h in
      ap₂ (λ (f : S → S × S × S) z. f z)
      (ap₂ three (at_same n _ _ _ _ own (λ k h. refl) ∙ verdict_told s.rule log some) (own 0 (pow_pos n) ∙ floor_told s.rule log some))
      (own (2 ^ n - 1) (omega (arith, pow_pos n)) ∙ ceiling_told s.rule log some)

  -- the rows of a state are those of its log
  rows_of : (form : Form) (s : State S) (log : List (Heard S)) → table_size form s.rule ≤ length s.buffer → OfLog A form s log
      → take (table_size form s.rule) s.buffer ≡ rows (cells_of_rule s.rule) (rows_kept form s.rule) (table_of A (inward false s.rule) log)
  rows_of form s log long of_log = take_rows A (cells_of_rule s.rule) (rows_kept form s.rule) s.buffer long
      ∙ rows_cong (cells_of_rule s.rule) (rows_kept form s.rule) _ _ of_log

-- every lawful scale keeps to the tables of logs
pub engine : {S : Type 0} {A : Algebra S} → Lawful A → Owed A
engine {S} {A} L = record {
  tabled_length = length_tabled;
  opened_of = opened_of L;
  opened_length = opened_length L;
  letter_of = λ form s log l long. letter_of L form s log l;
  apply_of = λ w s log volume e long. apply_of L w s log volume e;
  join_of = λ first second third left right e f long. join_of L first second third left right e f;
  told_of = told_of L;
  same_rows = λ form s t log e long other of_log of_other. rows_of L form s log long of_log
      ∙ (ap (λ r. rows (cells_of_rule r) (rows_kept form r) (table_of A (inward false r) log)) e ∙ sym (rows_of L form t log other of_other));
}
