-- Runs: lists of calls on a watch, refused or accepted, with any arguments; and how summaries come about. The log is
-- what was read: opening gives the empty log, an accepted letter call adds its letter, an accepted apply the summary's log, an
-- accepted join gives the third the first's log and then the second's; reports and refused calls leave it. Assumes nothing.
use Rattle.std.specs.Prelude.{◌≡◌, ◌≤◌, List, [], ◌∷◌, ◌++◌, length, Ok, Err, Result}
use Rattle.fault.specs.declared.WorkFault.{WorkFault}
use Rattle.letter.specs.Heard.{Heard}
use Rattle.rule.specs.Tree.{Rule}
use Rattle.runs.specs.Calls.{after, letter_answer, letter_state, apply_answer, apply_state, join_answer, join_state, report_answer}
use Rattle.runs.specs.States.{State, watch, summary, table_size, opened}
use Rattle.scale.specs.Laws.{Algebra}

-- an accepted report: the log it was asked on, and what it answered
pub record Report (S : Type 0) : Type 0 where
  pub read : List (Heard S)
  pub verdict : S
  pub floor : S
  pub ceiling : S

-- the reports so far and one answer more, if it was accepted
abbrev pub noted : {S : Type 0} → List (Report S) → List (Heard S) → Result (S × S × S) WorkFault → List (Report S)
noted reports log (Ok values) = reports ++ record { read = log; verdict = values.0; floor = values.1; ceiling = values.2 } ∷ []
noted reports log (Err fault) = reports

module _ {S : Type 0} (A : Algebra S) where
  -- a summary that opening, letter and join calls alone have made, in any buffers, and the volume it is of
  pub data Built : State S → List (Heard S) → Type 0 where
    opening : (r : Rule) (buffer : List S) → Built (opened A summary r buffer) []
    letter : {s : State S} {volume : List (Heard S)} (r : Rule) (l : Heard S) (spare : List S)
        → Built s volume
        → Built (letter_state A summary r s l spare) (after (letter_answer A summary r s l spare) (volume ++ l ∷ []) volume)
    join : {third : State S} {volume : List (Heard S)} (r : Rule) (first second : State S) (left right : List (Heard S))
        → Built third volume
        → (join_answer A r first second third ≡ Ok tt → Built first left)
        → (join_answer A r first second third ≡ Ok tt → Built second right)
        → Built (join_state A r first second third) (after (join_answer A r first second third) (left ++ right) volume)

  -- a watch that only letter, apply and report calls have touched since it was opened in a long enough buffer, its log, and
  -- the accepted reports, the earliest first; what an accepted apply brings is a summary that was built so
  pub data Run : State S → List (Heard S) → List (Report S) → Type 0 where
    opening : (r : Rule) (buffer : List S) → table_size watch r ≤ length buffer → Run (opened A watch r buffer) [] []
    letter : {w : State S} {log : List (Heard S)} {reports : List (Report S)} (r : Rule) (l : Heard S) (spare : List S)
        → Run w log reports
        → Run (letter_state A watch r w l spare) (after (letter_answer A watch r w l spare) (log ++ l ∷ []) log) reports
    apply : {w : State S} {log : List (Heard S)} {reports : List (Report S)} (r : Rule) (s : State S) (volume : List (Heard S)) (spare : List S)
        → Run w log reports
        → (apply_answer A r w s spare ≡ Ok tt → Built s volume)
        → Run (apply_state A r w s spare) (after (apply_answer A r w s spare) (log ++ volume) log) reports
    report : {w : State S} {log : List (Heard S)} {reports : List (Report S)} (r : Rule)
        → Run w log reports
        → Run w log (noted reports log (report_answer A watch r w))

  -- the summary of a list of fit letters: opening in a long enough buffer and an accepted letter call for each
  pub data Made (own : Rule) : List (Heard S) → State S → Type 0 where
    opening : (buffer : List S) → table_size summary own ≤ length buffer → Made own [] (opened A summary own buffer)
    letter : {volume : List (Heard S)} {s : State S} (r : Rule) (l : Heard S) (spare : List S)
        → Made own volume s
        → letter_answer A summary r s l spare ≡ Ok tt
        → Made own (volume ++ l ∷ []) (letter_state A summary r s l spare)

  -- a separate summary of each volume
  pub data Separate (own : Rule) : List (List (Heard S)) → List (State S) → Type 0 where
    none : Separate own [] []
    more : {volume : List (Heard S)} {volumes : List (List (Heard S))} {s : State S} {summaries : List (State S)}
        → Made own volume s → Separate own volumes summaries → Separate own (volume ∷ volumes) (s ∷ summaries)

  -- neighbours joined in any nesting, into any thirds, until one is left
  pub data Nested : List (State S) → State S → Type 0 where
    one : (s : State S) → Nested (s ∷ []) s
    joined : {left right : List (State S)} {s t : State S} (r : Rule) (third : State S)
        → Nested left s → Nested right t
        → join_answer A r s t third ≡ Ok tt
        → Nested (left ++ right) (join_state A r s t third)

-- the volumes in turn
abbrev pub in_turn : {S : Type 0} → List (List (Heard S)) → List (Heard S)
in_turn [] = []
in_turn (volume ∷ volumes) = volume ++ in_turn volumes
