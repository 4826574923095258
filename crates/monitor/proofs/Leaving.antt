-- What accepted calls may rely on, and what they answer and leave: the rows that were written are the tables that the calls speak
-- of. Assumes nothing.
use Rattle.std.proofs.Common.{◌≡◌, ℕ, suc, ◌+◌, ◌*◌, ◌^◌, ◌≤◌, false, eqb, List, length, Ok, sym, refl, ap, ◌∙◌, subst₂, arith}
use Rattle.cells.specs.Rows.{followed}
use Rattle.cells.specs.Step.{inner_cells}
use Rattle.letter.specs.Heard.{Heard}
use Rattle.monitor.specs.Checks.{report_check}
use Rattle.monitor.specs.declared.head.Head.{Head}
use Rattle.monitor.specs.Outside.{own, state}
use Rattle.monitor.specs.Work.{letter_table, rows_then}
use Rattle.rule.specs.Spelling.{spelled}
use Rattle.rule.specs.Tree.{Rule}
use Rattle.rule.proofs.Sentences.{one_reading}
use Rattle.runs.specs.Calls.{Answer, after, cleared, differs, letter_answer, letter_state, letter_spare, apply_answer, apply_state, apply_spare, join_answer, told, report_answer}
use Rattle.runs.specs.States.{State, Form, watch, summary, cells_of_rule, rows_kept, table_size, short, table_in, tabled}
use Rattle.runs.proofs.Checks.{LetterFacts, letter_facts, ApplyFacts, apply_facts, JoinFacts, join_facts, past, onward, after_accepted}
use Rattle.scale.specs.Laws.{Algebra}
use Rattle.semantics.specs.Inward.{inward}
use Rattle.std.proofs.lemmas.Slice.Eq.{bytes_eq-Decides}
use Rattle.std.proofs.lemmas.Bool.{ltb-false, not-false}

-- a watch and a summary keep a row at least, since a rule has a cell
pub some_row : (form : Form) (r : Rule) (n room : ℕ) → rows_kept form r * 2 ^ n ≤ room → 2 ^ n ≤ room
some_row watch r n room fits = omega (arith, fits)
some_row summary r n room fits =
    let inner : ℕ = inner_cells (inward false r) in
    let more : suc inner * 2 ^ n ≤ room = fits in
    omega arith

-- after an accepted call there is what is new
after_new : {X : Type 0} (answer : Answer) (new old : X) → answer ≡ Ok tt → new ≡ after answer new old
after_new answer new old e = after_accepted (λ x. new ≡ x) answer new old e refl

module _ {S : Type 0} where
  -- so many rows of the rule that a call brings fit, where those of the state's own do
  room : (form : Form) (s : State S) (r : Rule) (n count : ℕ) → n ≡ cells_of_rule r → s.rule ≡ r → count ≡ rows_kept form s.rule
      → table_size form s.rule ≤ length s.buffer → count * 2 ^ n ≤ length s.buffer
  room form s r n count cells same kept fits =
      subst₂ (λ k i. k * 2 ^ i ≤ length s.buffer) (sym kept) (ap cells_of_rule same ∙ sym cells) fits

module _ {S : Type 0} (A : Algebra S) where
  -- rows written for as many cells and rows as a rule has are its table
  written : (form : Form) (r : Rule) (n count : ℕ) (buffer : List S) (t u : ℕ → ℕ → S) → n ≡ cells_of_rule r → count ≡ rows_kept form r → t ≡ u
      → rows_then A n count buffer t ≡ tabled form r (followed A (cells_of_rule r) (table_in A (cells_of_rule r) buffer) u) buffer
  written form r n count buffer t u cells kept e =
      ap (λ v. rows_then A n count buffer v) e ∙ ap (λ k. rows_then A n k buffer u) kept ∙ ap (λ k. rows_then A k (rows_kept form r) buffer u) cells

  -- an accepted letter: the state's head, count and buffer, the rule, the letter and the spare of the call, and the rule's cells
  module _ (form : Form) (h : Head) (m : ℕ) (buffer : List S) (r : Rule) (l : Heard S) (spare : List S) (n count : ℕ) (cells : n ≡ cells_of_rule r)
      (kept : count ≡ rows_kept form (own h)) (accepted : letter_answer A form r (state h m buffer) l spare ≡ Ok tt) where
    facts : LetterFacts A form r (state h m buffer) l spare
    facts = letter_facts A form r (state h m buffer) l spare accepted

    pub letter_room : count * 2 ^ n ≤ length buffer
    letter_room = room form (state h m buffer) r n count cells facts.rules kept facts.room

    pub letter_left : (table : List S) → table ≡ rows_then A n count buffer (letter_table A r l)
        → state h (m + 1) table ≡ letter_state A form r (state h m buffer) l spare
    letter_left table wrote =
        ap (state h (m + 1))
        (wrote ∙ written form (own h) n count buffer _ _ (cells ∙ ap cells_of_rule (sym facts.rules)) kept (ap (λ q. letter_table A q l) (sym facts.rules)))
        ∙ after_new (letter_answer A form r (state h m buffer) l spare) _ _ accepted

    pub letter_spared : (rest : List S) → rest ≡ cleared A spare → rest ≡ letter_spare A form r (state h m buffer) l spare
    letter_spared rest e = e ∙ after_new (letter_answer A form r (state h m buffer) l spare) _ _ accepted

  -- an accepted apply: the watch's head, count and buffer, the summary's, the rule and the spare of the call, and the rule's cells
  module _ (w : Head) (m : ℕ) (buffer : List S) (s : Head) (more : ℕ) (volume : List S) (r : Rule) (spare : List S) (n : ℕ) (cells : n ≡ cells_of_rule r)
      (accepted : apply_answer A r (state w m buffer) (state s more volume) spare ≡ Ok tt) where
    both : ApplyFacts A r (state w m buffer) (state s more volume) spare
    both = apply_facts A r (state w m buffer) (state s more volume) spare accepted

    pub apply_room : 1 * 2 ^ n ≤ length buffer
    apply_room = room watch (state w m buffer) r n 1 cells both.rules refl both.room

    pub apply_summary_room : n * 2 ^ n ≤ length volume
    apply_summary_room = room summary (state s more volume) r n n cells both.summary_rules (cells ∙ ap cells_of_rule (sym both.summary_rules)) both.summary_room

    pub apply_left : (table : List S) → table ≡ rows_then A n 1 buffer (table_in A n volume)
        → state w (m + more) table ≡ apply_state A r (state w m buffer) (state s more volume) spare
    apply_left table wrote =
        ap (state w (m + more))
        (wrote ∙ written watch (own w) n 1 buffer _ _ (cells ∙ ap cells_of_rule (sym both.rules)) refl
        (ap (λ k. table_in A k volume) (cells ∙ ap cells_of_rule (sym both.summary_rules))))
        ∙ after_new (apply_answer A r (state w m buffer) (state s more volume) spare) _ _ accepted

    pub apply_spared : (rest : List S) → rest ≡ cleared A spare → rest ≡ apply_spare A r (state w m buffer) (state s more volume) spare
    apply_spared rest e = e ∙ after_new (apply_answer A r (state w m buffer) (state s more volume) spare) _ _ accepted

  -- what an accepted join may rely on
  pub join_room : (r : Rule) (n : ℕ) (first second third : State S) → n ≡ cells_of_rule r → join_answer A r first second third ≡ Ok tt
      → (n * 2 ^ n ≤ length first.buffer) × (n * 2 ^ n ≤ length second.buffer) × (n * 2 ^ n ≤ length third.buffer)
  join_room r n first second third cells accepted =
      let facts : JoinFacts A r first second third = join_facts A r first second third accepted in (
        room summary first r n n cells facts.first_rules (cells ∙ ap cells_of_rule (sym facts.first_rules)) facts.first_room,
        room summary second r n n cells facts.second_rules (cells ∙ ap cells_of_rule (sym facts.second_rules)) facts.second_room,
        room summary third r n n cells facts.third_rules (cells ∙ ap cells_of_rule (sym facts.third_rules)) facts.third_room,
      )

  -- an accepted report: the state and the rule of the call
  module _ (form : Form) (s : State S) (r : Rule) (accepted : report_check form r s ≡ Ok tt) where
    rules_same : s.rule ≡ r
    rules_same =
        let fits = past (short form s) _ _ tt accepted in
        let texts = past (differs r s) _ _ tt fits.1 in
        sym (one_reading r s.rule ((bytes_eq-Decides (spelled r) (spelled s.rule)).0 (not-false _ texts.0)))

    pub report_room : (n : ℕ) → n ≡ cells_of_rule r → 2 ^ n ≤ length s.buffer
    report_room n cells =
        let fits = past (short form s) _ _ tt accepted in
        some_row form s.rule n (length s.buffer)
        (room form s r n (rows_kept form s.rule) cells rules_same refl (ltb-false (length s.buffer) (table_size form s.rule) fits.0))

    pub report_told : (values : S × S × S) → values ≡ told A (record { rule = r; count = 0; buffer = s.buffer }) → Ok values ≡ report_answer A form r s
    report_told values tells =
        let fits = past (short form s) _ _ tt accepted in
        let texts = past (differs r s) _ _ tt fits.1 in
        let some = past (eqb s.count 0) _ _ tt texts.1 in
        ap Ok (tells ∙ ap (λ q. told A (record { rule = q; count = 0; buffer = s.buffer })) (sym rules_same))
        ∙ sym (onward (short form s) _ _ fits.0 ∙ onward (differs r s) _ _ texts.0 ∙ onward (eqb s.count 0) _ _ some.0)
