-- The law of whole runs: what holds of a watch after any list of calls, and of a summary however it was built. Assumes nothing.
use Rattle.std.specs.Prelude.{◌≡◌, ℕ, ◌+◌, ◌<◌, ◌≤◌, not, List, [], ◌∷◌, ◌++◌, length, None, Ok, Result, ◌==◌}
use Rattle.fault.specs.declared.WorkCause.TheVariants.{Differs, NoLetter}
use Rattle.fault.specs.declared.WorkFault.{WorkFault}
use Rattle.letter.specs.declared.bits.Bits.{Bits}
use Rattle.letter.specs.Heard.{Heard}
use Rattle.rule.specs.Spelling.{spelled}
use Rattle.rule.specs.Tree.{Rule}
use Rattle.runs.specs.Calls.{most_letters, spare_needed, unless, letter_answer, apply_answer, join_answer, report_answer, Equal}
use Rattle.runs.specs.Runs.{Report, Built, Run, Made, Separate, Nested, in_turn}
use Rattle.runs.specs.States.{State, watch, summary, table_size, opened}
use Rattle.scale.specs.declared.verdict.Verdict.{Verdict}
use Rattle.scale.specs.declared.verdict.Verdict.TheVariants.{Broken, Kept}
use Rattle.scale.specs.Laws.{Algebra, Below}
use Rattle.scale.specs.Verdicts.{verdicts}
use Rattle.semantics.specs.Continuations.{Settling, HoldsOn, Continues, heard_along}
use Rattle.semantics.specs.Reports as position
use Rattle.std.specs.Str.{bytes_eq}

-- every element
abbrev pub Each : {X : Type 0} → (X → Type 0) → List X → Type 0
Each P [] = Unit {0}
Each P (x ∷ xs) = P x × Each P xs

abbrev pub Fit : {S : Type 0} → Heard S → Type 0
Fit l = l.unfit ≡ None

module _ {S : Type 0} (A : Algebra S) where
  -- the answer to a report call with rule r on a log, by the position rules of the rule the watch or summary is for
  abbrev pub judged : Rule → Rule → List (Heard S) → Result (S × S × S) WorkFault
  judged own r log =
      unless (not (bytes_eq (spelled r) (spelled own))) Differs
      (unless (length log == 0) NoLetter (Ok (position.report A own log)))

  -- an accepted report gave the position rules' verdict, floor and ceiling of the log it was asked on, with which the log
  -- still begins
  pub record Right (own : Rule) (log : List (Heard S)) (x : Report S) : Type 0 where
    pub some : 0 < length x.read
    pub since : List (Heard S)
    pub begins : log ≡ x.read ++ since
    pub verdict_is : x.verdict ≡ position.verdict A own x.read
    pub floor_is : x.floor ≡ position.floor A own x.read
    pub ceiling_is : x.ceiling ≡ position.ceiling A own x.read

  -- the earlier floor lies below the later verdict, floor and ceiling, and these lie below the earlier ceiling
  pub record Between (earlier later : Report S) : Type 0 where
    pub floor_verdict : Below A earlier.floor later.verdict
    pub floor_floor : Below A earlier.floor later.floor
    pub floor_ceiling : Below A earlier.floor later.ceiling
    pub verdict_ceiling : Below A later.verdict earlier.ceiling
    pub floor_below : Below A later.floor earlier.ceiling
    pub ceiling_below : Below A later.ceiling earlier.ceiling

  -- so for any two reports
  abbrev pub Rising : List (Report S) → Type 0
  Rising [] = Unit {0}
  Rising (x ∷ later) = Each (Between x) later × Rising later

  -- a rule reported best holds on every endless continuation of the log it was asked on, one reported worst on none
  abbrev pub ForGood : Rule → Report S → Type 0
  ForGood own x = (endless : ℕ → Heard S) → Continues A x.read endless
      → (x.verdict ≡ A.best → HoldsOn A own endless) × (x.verdict ≡ A.worst → HoldsOn A own endless → ⊥)

  -- a summary that stands for the whole log as the watch does
  pub record Stands (w s : State S) : Type 0 where
    pub counts : s.count ≡ w.count
    pub answers : (r : Rule) → report_answer A summary r s ≡ report_answer A watch r w

  -- what holds of a watch with this log and these reports
  pub record Promise (w : State S) (log : List (Heard S)) (reports : List (Report S)) : Type 0 where
    -- the count is the length of the log, which has fit letters only
    pub counts : w.count ≡ length log
    pub within : length log ≤ most_letters
    pub fit : Each Fit log
    -- every report call, with any rule, is answered by the position rules, or refused as it should be
    pub answers : (r : Rule) → report_answer A watch r w ≡ judged w.rule r log
    -- and so was every accepted report; of any two the earlier one bounds the later
    pub right : Each (Right w.rule log) reports
    pub rising : Rising reports
    -- the separate summaries of any volumes that in turn make up the log, joined as neighbours in any nesting, equal every
    -- summary of the whole log, which has the watch's count and answers every report call as the watch does
    pub volumes : (parts : List (List (Heard S))) → in_turn parts ≡ log
        → (summaries : List (State S)) → Separate A w.rule parts summaries
        → (s : State S) → Nested A summaries s
        → (whole : State S) → Made A w.rule log whole
        → Equal A s whole × Stands w s × Stands w whole
    -- on a scale that settles, best and worst are for good
    pub for_good : Settling A → Each (ForGood w.rule) reports
    -- none of this is empty: the watch reads every fit letter and takes every built summary while the count allows,
    pub reads : (l : Heard S) (spare : List S) → Fit l → spare_needed ≤ length spare → length log < most_letters
        → letter_answer A watch w.rule w l spare ≡ Ok tt
    pub takes : (s : State S) (volume : List (Heard S)) (spare : List S) → Built A s volume
        → s.rule ≡ w.rule → table_size summary s.rule ≤ length s.buffer → spare_needed ≤ length spare → length log + length volume ≤ most_letters
        → apply_answer A w.rule w s spare ≡ Ok tt
    -- every list of fit letters has a summary in any long enough buffer,
    pub makes : (volume : List (Heard S)) → Each Fit volume → length volume ≤ most_letters
        → (buffer : List S) → table_size summary w.rule ≤ length buffer
        → (s : State S) × Made A w.rule volume s × (length s.buffer ≡ length buffer)
    -- and what neighbouring volumes give can be joined in any long enough buffer
    pub joins : (left right : List (List (Heard S))) → length (in_turn left) + length (in_turn right) ≤ most_letters
        → (some rest : List (State S)) → Separate A w.rule left some → Separate A w.rule right rest
        → (s t : State S) → Nested A some s → Nested A rest t
        → (buffer : List S) → table_size summary w.rule ≤ length buffer
        → join_answer A w.rule s t (opened A summary w.rule buffer) ≡ Ok tt

  -- what holds of a summary of a volume
  pub record Summed (s : State S) (volume : List (Heard S)) : Type 0 where
    pub counts : s.count ≡ length volume
    pub within : length volume ≤ most_letters
    pub fit : Each Fit volume
    pub answers : (r : Rule) → report_answer A summary r s ≡ judged s.rule r volume
    -- it equals every summary that is made of the volume letter by letter
    pub equals : (t : State S) → Made A s.rule volume t → Equal A s t

  -- the law of whole runs, for one watch: whatever calls it came by
  abbrev pub WatchLaw : State S → Type 0
  WatchLaw w = (log : List (Heard S)) (reports : List (Report S)) → Run A w log reports → Promise w log reports

  -- the law for one summary: however it was built, in a long enough buffer
  abbrev pub SummaryLaw : State S → Type 0
  SummaryLaw s = (volume : List (Heard S)) → Built A s volume → table_size summary s.rule ≤ length s.buffer → Summed s volume

-- with bit letters on the verdict scale: after any list of calls, a rule reported kept holds on every endless continuation
-- of the log it was reported on, and one reported broken on none
abbrev pub BitForGood : Rule → Report Verdict → Type 0
BitForGood own x = (endless : ℕ → Bits) → Continues verdicts x.read (heard_along endless)
    → (x.verdict ≡ Kept → HoldsOn verdicts own (heard_along endless)) × (x.verdict ≡ Broken → HoldsOn verdicts own (heard_along endless) → ⊥)

abbrev pub BitLaw : Type 0
BitLaw = (w : State Verdict) (log : List (Heard Verdict)) (reports : List (Report Verdict)) → Run verdicts w log reports
    → Each (BitForGood w.rule) reports
