-- The calls on watches and summaries: what each answers and what it leaves. Assumes nothing.
use Rattle.std.specs.Prelude.{◌≡◌, ℕ, ◌+◌, ◌-◌, ◌^◌, Bool, true, false, cond, not, ◌||◌, List, [], ◌∷◌, ◌++◌, length, take, drop, replicate, Some, None, Ok, Err, Option, Result, ◌==◌, nat_lt, slice_index_or}
use Rattle.cells.specs.Rows.{at, followed}
use Rattle.cells.specs.Step.{end_marks}
use Rattle.cells.specs.Tables.{table_of}
use Rattle.fault.specs.declared.WorkCause.{WorkCause}
use Rattle.fault.specs.declared.WorkCause.TheVariants.{Differs, BufferShort, SpareShort, Unfit, CountAbove, NoLetter}
use Rattle.fault.specs.declared.WorkFault.{WorkFault}
use Rattle.fault.specs.declared.WorkFault.TheVariants.{Refused}
use Rattle.letter.specs.Heard.{Heard}
use Rattle.rule.specs.Spelling.{spelled}
use Rattle.rule.specs.Tree.{Rule}
use Rattle.runs.specs.States.{State, Form, watch, summary, cells_of_rule, table_size, short, table, tabled}
use Rattle.scale.specs.Laws.{Algebra}
use Rattle.semantics.specs.Inward.{inward}
use Rattle.semantics.specs.Marks.{mark_of}
use Rattle.std.specs.Str.{bytes_eq}

-- what a call may work with: at most so many letters, at least so many spare values
abbrev pub most_letters : ℕ
most_letters = 1000000000

abbrev pub spare_needed : ℕ
spare_needed = 312

-- an answer without a value: accepted, or refused
abbrev pub Answer : Type 0
Answer = Result (Unit {0}) WorkFault

-- one check, and then the rest of the answer
abbrev pub unless : {X : Type 0} → Bool → WorkCause → Result X WorkFault → Result X WorkFault
unless fails cause rest = cond fails (Err (Refused cause 0)) rest

-- the letter's fitness: the place is the lowest unfit channel
abbrev pub unless_unfit : Option ℕ → Answer → Answer
unless_unfit None rest = rest
unless_unfit (Some channel) rest = Err (Refused Unfit channel)

-- what is there after a call: something new if it was accepted, else what there was
abbrev pub after : {X : Type 0} → Answer → X → X → X
after (Ok u) new old = new
after (Err fault) new old = old

-- the rule a call brings has another text than the state's
abbrev pub differs : {S : Type 0} → Rule → State S → Bool
differs r s = not (bytes_eq (spelled r) (spelled s.rule))

-- an accepted letter or apply call leaves the first values of the spare worst, and the rest as it was
abbrev pub cleared : {S : Type 0} → Algebra S → List S → List S
cleared A spare = replicate spare_needed A.worst ++ drop spare_needed spare

-- how many letters were read
abbrev pub count_answer : {S : Type 0} → Form → State S → Result ℕ WorkFault
count_answer form s = unless (short form s) BufferShort (Ok s.count)

module _ {S : Type 0} (A : Algebra S) where
  -- a letter: one row after the other is taken at the values of the letter's own table
  abbrev pub letter_answer : Form → Rule → State S → Heard S → List S → Answer
  letter_answer form r s l spare =
      unless (short form s) BufferShort
      (unless (differs r s) Differs
      (unless (nat_lt (length spare) spare_needed) SpareShort
      (unless_unfit l.unfit
      (unless (nat_lt most_letters (s.count + 1)) CountAbove (Ok tt)))))

  abbrev pub with_letter : Form → State S → Heard S → State S
  with_letter form s l = record {
    rule = s.rule;
    count = s.count + 1;
    buffer = tabled form s.rule (followed A (cells_of_rule s.rule) (table A s) (table_of A (inward false s.rule) (l ∷ []))) s.buffer;
  }

  abbrev pub letter_state : Form → Rule → State S → Heard S → List S → State S
  letter_state form r s l spare = after (letter_answer form r s l spare) (with_letter form s l) s

  abbrev pub letter_spare : Form → Rule → State S → Heard S → List S → List S
  letter_spare form r s l spare = after (letter_answer form r s l spare) (cleared A spare) spare

  -- a summary onto a watch: the watch's row is taken at the values of the summary's rows
  abbrev pub apply_answer : Rule → State S → State S → List S → Answer
  apply_answer r w s spare =
      unless (short watch w || short summary s) BufferShort
      (unless (differs r w || differs r s) Differs
      (unless (nat_lt (length spare) spare_needed) SpareShort
      (unless (nat_lt most_letters (w.count + s.count)) CountAbove (Ok tt))))

  abbrev pub with_summary : State S → State S → State S
  with_summary w s = record {
    rule = w.rule;
    count = w.count + s.count;
    buffer = tabled watch w.rule (followed A (cells_of_rule w.rule) (table A w) (table A s)) w.buffer;
  }

  abbrev pub apply_state : Rule → State S → State S → List S → State S
  apply_state r w s spare = after (apply_answer r w s spare) (with_summary w s) w

  abbrev pub apply_spare : Rule → State S → State S → List S → List S
  apply_spare r w s spare = after (apply_answer r w s spare) (cleared A spare) spare

  -- two summaries into a third: each row of the first is taken at the values of the second's rows
  abbrev pub join_answer : Rule → State S → State S → State S → Answer
  join_answer r first second third =
      unless (short summary first || short summary second || short summary third) BufferShort
      (unless (differs r first || differs r second || differs r third) Differs
      (unless (nat_lt most_letters (first.count + second.count)) CountAbove (Ok tt)))

  abbrev pub with_both : State S → State S → State S → State S
  with_both first second third = record {
    rule = third.rule;
    count = first.count + second.count;
    buffer = tabled summary third.rule (followed A (cells_of_rule third.rule) (table A first) (table A second)) third.buffer;
  }

  abbrev pub join_state : Rule → State S → State S → State S → State S
  join_state r first second third = after (join_answer r first second third) (with_both first second third) third

  -- a report: row 0 at the marks, its first entry and its last
  abbrev pub told : State S → S × S × S
  told s = (
    at A (cells_of_rule s.rule) (table A s 0) (λ k. slice_index_or (end_marks A.pending (mark_of A) (inward false s.rule)) k A.worst),
    table A s 0 0,
    table A s 0 (2 ^ cells_of_rule s.rule - 1),
  )

  abbrev pub report_answer : Form → Rule → State S → Result (S × S × S) WorkFault
  report_answer form r s =
      unless (short form s) BufferShort
      (unless (differs r s) Differs
      (unless (s.count == 0) NoLetter (Ok (told s))))

  -- equal summaries have equal rule text, count and rows
  pub record Equal (s t : State S) : Type 0 where
    pub texts : spelled s.rule ≡ spelled t.rule
    pub counts : s.count ≡ t.count
    pub tables : take (table_size summary s.rule) s.buffer ≡ take (table_size summary t.rule) t.buffer

  -- whether two summaries are equal; refused where a buffer is too short
  abbrev pub EqualAnswer : State S → State S → Result Bool WorkFault → Type 0
  EqualAnswer s t (Ok b) = (short summary s || short summary t ≡ false) × (b ≡ true → Equal s t) × (Equal s t → b ≡ true)
  EqualAnswer s t (Err fault) = (short summary s || short summary t ≡ true) × (fault ≡ Refused BufferShort 0)
