-- What `judge` answers to a letter's line. Assumes nothing.
use Rattle.std.specs.Prelude.{◌≡◌, ℕ, ◌<◌, ◌⊎◌, List, [], ◌∷◌, ◌++◌, map, length, take, Some, None, Ok, Err, string_bytes, Option, Result, String, ◌≢◌}
use Rattle.letter.specs.Bits.{bits_heard}
use Rattle.letter.specs.declared.bits.Bits.{Bits}
use Rattle.letter.specs.Lines.{four_digits}
use Rattle.lines.specs.Answers.{refusal_text, report_text}
use Rattle.lines.specs.declared.log.Log.{Log}
use Rattle.rule.specs.Tree.{Rule}
use Rattle.scale.specs.Verdicts.{verdicts}
use Rattle.semantics.specs.Reports.{report}
use Rattle.std.specs.declared.alloc.AllocError.{AllocError}
use Rattle.std.specs.declared.alloc.Global.{Global}

-- the letters of a log
abbrev pub log_of : Log → List Bits
log_of l = take l.count l.letters

-- the line is a letter, the log had room and now ends with it, and the answer is the report on it
pub record Reported (r : Rule) (old : List Bits) (line : List ℕ) (new : List Bits) (text : List ℕ) : Type 0 where
  pub letter : Bits
  pub line_is : line ≡ four_digits letter.word
  pub room : length old < 64
  pub log_is : new ≡ old ++ letter ∷ []
  pub text_is : text ≡ report_text (length new) (report verdicts r (map bits_heard new))

-- the line is no letter, the log is as it was, and the answer is the refusal 19
pub record NoLetter (old : List Bits) (line : List ℕ) (new : List Bits) (text : List ℕ) : Type 0 where
  pub none : (w : ℕ) → w < 65536 → line ≢ four_digits w
  pub log_is : new ≡ old
  pub text_is : text ≡ refusal_text 19

-- the line is a letter, and the log is full
pub record Full (old : List Bits) (line : List ℕ) (new : List Bits) : Type 0 where
  pub letter : Bits
  pub line_is : line ≡ four_digits letter.word
  pub full : length old ≡ 64
  pub log_is : new ≡ old

-- want of memory leaves the log as it was
abbrev pub Answered : Rule → List Bits → List ℕ → List Bits → Result (Option (String Global)) AllocError → Type 0
Answered r old line new (Ok (Some text)) = Reported r old line new (string_bytes text) ⊎ NoLetter old line new (string_bytes text)
Answered r old line new (Ok None) = Full old line new
Answered r old line new (Err e) = new ≡ old
