-- What `logwatch` answers to the rule's line and to a letter's line. Assumes nothing.
use Rattle.std.specs.Prelude.{◌≡◌, ℕ, ◌<◌, ◌⊎◌, List, [], ◌∷◌, ◌++◌, length, Some, Ok, Err, string_bytes, Result, String, ◌≢◌}
use Rattle.cells.specs.declared.laid_rule.LaidRule.{LaidRule}
use Rattle.cells.specs.LaysRule.{LaysRule}
use Rattle.fault.specs.declared.CellFault.{CellFault}
use Rattle.fault.specs.declared.WorkFault.{WorkFault}
use Rattle.fault.specs.Faults.{cell_number_of, work_number_of}
use Rattle.letter.specs.Bits.{bits_heard}
use Rattle.letter.specs.declared.bits.Bits.{Bits}
use Rattle.letter.specs.Heard.{Heard}
use Rattle.letter.specs.Lines.{four_digits}
use Rattle.lines.specs.Answers.{refusal_text, report_text}
use Rattle.rule.specs.Tree.{Rule}
use Rattle.runs.specs.Calls.{letter_answer, letter_state, letter_spare, told}
use Rattle.runs.specs.Runs.{Report, Run}
use Rattle.runs.specs.States.{State, watch}
use Rattle.scale.specs.declared.verdict.Verdict.{Verdict}
use Rattle.scale.specs.Verdicts.{verdicts, rank}
use Rattle.semantics.specs.Continuations.{HoldsOn, Continues, heard_along}
use Rattle.semantics.specs.Reports as position
use Rattle.std.specs.declared.alloc.AllocError.{AllocError}
use Rattle.std.specs.declared.alloc.Global.{Global}

-- the rule's line: the rule with its cells laid, or the line that says which refusal it is
abbrev pub RuleAnswered : List ℕ → Result (Result LaidRule (String Global)) AllocError → Type 0
RuleAnswered line (Ok (Ok laid)) = LaysRule line (Ok laid)
RuleAnswered line (Ok (Err text)) =
    (fault : CellFault) × (n : ℕ) × LaysRule line (Err fault) × (cell_number_of fault ≡ Some n) × (string_bytes text ≡ refusal_text n)
RuleAnswered line (Err e) = Unit {0}

-- the line is a letter and the watch has read it; the answer is how many letters there are now, and the report
pub record Told (r : Rule) (w : State Verdict) (spare : List Verdict) (line : List ℕ) (new : State Verdict) (left : List Verdict) (text : List ℕ) : Type 0 where
  pub letter : Bits
  pub line_is : line ≡ four_digits letter.word
  pub accepted : letter_answer verdicts watch r w (bits_heard letter) spare ≡ Ok tt
  pub state_is : new ≡ letter_state verdicts watch r w (bits_heard letter) spare
  pub spare_is : left ≡ letter_spare verdicts watch r w (bits_heard letter) spare
  pub text_is : text ≡ report_text new.count (told verdicts new)

-- the line is a letter and the watch has refused it; the answer is the refusal's number
pub record Turned (r : Rule) (w : State Verdict) (spare : List Verdict) (line : List ℕ) (new : State Verdict) (left : List Verdict) (text : List ℕ) : Type 0 where
  pub letter : Bits
  pub line_is : line ≡ four_digits letter.word
  pub fault : WorkFault
  pub refused : letter_answer verdicts watch r w (bits_heard letter) spare ≡ Err fault
  pub state_is : new ≡ w
  pub spare_is : left ≡ spare
  pub text_is : text ≡ refusal_text (work_number_of fault)

-- the line is no letter; all is as it was, and the answer is the refusal 19
pub record Torn (w : State Verdict) (spare : List Verdict) (line : List ℕ) (new : State Verdict) (left : List Verdict) (text : List ℕ) : Type 0 where
  pub none : (word : ℕ) → word < 65536 → line ≢ four_digits word
  pub state_is : new ≡ w
  pub spare_is : left ≡ spare
  pub text_is : text ≡ refusal_text 19

-- where memory is wanting for the answer, the letter has been read all the same, or all is as it was
pub record Unsaid (r : Rule) (w : State Verdict) (spare : List Verdict) (line : List ℕ) (new : State Verdict) (left : List Verdict) : Type 0 where
  pub letter : Bits
  pub line_is : line ≡ four_digits letter.word
  pub state_is : new ≡ letter_state verdicts watch r w (bits_heard letter) spare
  pub spare_is : left ≡ letter_spare verdicts watch r w (bits_heard letter) spare

abbrev pub LineAnswered : Rule → State Verdict → List Verdict → List ℕ → State Verdict → List Verdict → Result (String Global) AllocError → Type 0
LineAnswered r w spare line new left (Ok text) =
    Told r w spare line new left (string_bytes text) ⊎ (Turned r w spare line new left (string_bytes text) ⊎ Torn w spare line new left (string_bytes text))
LineAnswered r w spare line new left (Err e) = Unsaid r w spare line new left ⊎ ((new ≡ w) × (left ≡ spare))

-- what an accepted line says of the log so far, if only letter, apply and report calls have touched the watch: the position
-- rules' report, and if a 3 is printed the rule holds on every endless continuation of the log, if a 0 is printed on none
pub record ForGood (w : State Verdict) (log : List (Heard Verdict)) (letter : Bits) (text : List ℕ) : Type 0 where
  pub now : List (Heard Verdict)
  pub now_is : now ≡ log ++ bits_heard letter ∷ []
  pub text_is : text ≡ report_text (length now) (position.report verdicts w.rule now)
  pub kept : rank (position.verdict verdicts w.rule now) ≡ 3
      → (endless : ℕ → Bits) → Continues verdicts now (heard_along endless) → HoldsOn verdicts w.rule (heard_along endless)
  pub broken : rank (position.verdict verdicts w.rule now) ≡ 0
      → (endless : ℕ → Bits) → Continues verdicts now (heard_along endless) → HoldsOn verdicts w.rule (heard_along endless) → ⊥

abbrev pub LineForGood : Rule → State Verdict → List Verdict → List ℕ → Result (String Global) AllocError → Type 0
LineForGood r w spare line (Ok text) = (log : List (Heard Verdict)) (reports : List (Report Verdict)) → Run verdicts w log reports
    → (letter : Bits) → letter.word < 65536 → line ≡ four_digits letter.word → letter_answer verdicts watch r w (bits_heard letter) spare ≡ Ok tt
    → ForGood w log letter (string_bytes text)
LineForGood r w spare line (Err e) = Unit {0}
