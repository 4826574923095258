-- What the calls make of runs and of built summaries, from the answers they gave and the states they left. Assumes nothing.
use Rattle.std.proofs.Common.{◌≡◌, ◌≤◌, List, [], ◌∷◌, ◌++◌, length, Ok, Result, sym, ◌∙◌, subst, subst₂}
use Rattle.fault.specs.declared.WorkFault.{WorkFault}
use Rattle.letter.specs.Heard.{Heard}
use Rattle.rule.specs.Tree.{Rule}
use Rattle.runs.specs.Calls.{Answer, after, letter_answer, letter_state, apply_answer, apply_state, join_answer, join_state, report_answer}
use Rattle.runs.specs.Promises.{WatchLaw, SummaryLaw, BitLaw}
use Rattle.runs.specs.Runs.{Report, Run, Built, noted}
use Rattle.runs.specs.States.{State, watch, summary, table_size, opened}
use Rattle.runs.proofs.Engine.{engine}
use Rattle.runs.proofs.Laws.{watch_law, summary_law, bit_law}
use Rattle.scale.specs.Laws.{Algebra, Lawful}
use Rattle.scale.proofs.VerdictLaws.{verdicts_lawful}

module _ {S : Type 0} (A : Algebra S) where
  pub run_opened : (w : State S) (r : Rule) (buffer : List S) → w ≡ opened A watch r buffer → table_size watch r ≤ length buffer → Run A w [] []
  run_opened w r buffer e long = subst (λ v. Run A v [] []) (sym e) (Run.opening r buffer long)

  pub run_letter : (before after_it : State S) (answer : Answer) (r : Rule) (l : Heard S) (spare : List S)
      → answer ≡ letter_answer A watch r before l spare → after_it ≡ letter_state A watch r before l spare
      → (log : List (Heard S)) (reports : List (Report S)) → Run A before log reports → Run A after_it (after answer (log ++ l ∷ []) log) reports
  run_letter before after_it answer r l spare answered left log reports run =
      subst₂ (λ w a. Run A w (after a (log ++ l ∷ []) log) reports) (sym left) (sym answered) (Run.letter r l spare run)

  pub run_apply : (before after_it : State S) (answer : Answer) (r : Rule) (s : State S) (spare : List S)
      → answer ≡ apply_answer A r before s spare → after_it ≡ apply_state A r before s spare
      → (log : List (Heard S)) (reports : List (Report S)) (volume : List (Heard S)) → Run A before log reports → (answer ≡ Ok tt → Built A s volume)
      → Run A after_it (after answer (log ++ volume) log) reports
  run_apply before after_it answer r s spare answered left log reports volume run built =
      subst₂ (λ w a. Run A w (after a (log ++ volume) log) reports) (sym left) (sym answered)
      (Run.apply r s volume spare run (λ e. built (answered ∙ e)))

  pub run_report : (w : State S) (answer : Result (S × S × S) WorkFault) (r : Rule) → answer ≡ report_answer A watch r w
      → (log : List (Heard S)) (reports : List (Report S)) → Run A w log reports → Run A w log (noted reports log answer)
  run_report w answer r answered log reports run = subst (λ a. Run A w log (noted reports log a)) (sym answered) (Run.report r run)

  pub built_opened : (s : State S) (r : Rule) (buffer : List S) → s ≡ opened A summary r buffer → Built A s []
  built_opened s r buffer e = subst (λ t. Built A t []) (sym e) (Built.opening r buffer)

  pub built_letter : (before after_it : State S) (answer : Answer) (r : Rule) (l : Heard S) (spare : List S)
      → answer ≡ letter_answer A summary r before l spare → after_it ≡ letter_state A summary r before l spare
      → (volume : List (Heard S)) → Built A before volume → Built A after_it (after answer (volume ++ l ∷ []) volume)
  built_letter before after_it answer r l spare answered left volume built =
      subst₂ (λ s a. Built A s (after a (volume ++ l ∷ []) volume)) (sym left) (sym answered) (Built.letter r l spare built)

  pub built_join : (before after_it : State S) (answer : Answer) (r : Rule) (first second : State S)
      → answer ≡ join_answer A r first second before → after_it ≡ join_state A r first second before
      → (left right volume : List (Heard S)) → Built A before volume → (answer ≡ Ok tt → Built A first left) → (answer ≡ Ok tt → Built A second right)
      → Built A after_it (after answer (left ++ right) volume)
  built_join before after_it answer r first second answered state left right volume built one two =
      subst₂ (λ s a. Built A s (after a (left ++ right) volume)) (sym state) (sym answered)
      (Built.join r first second left right built (λ e. one (answered ∙ e)) (λ e. two (answered ∙ e)))

-- the laws of whole runs, on a lawful scale
pub watch_lawful : {S : Type 0} {A : Algebra S} → Lawful A → (w : State S) → WatchLaw A w
watch_lawful L w = watch_law L (engine L) w

pub summary_lawful : {S : Type 0} {A : Algebra S} → Lawful A → (s : State S) → SummaryLaw A s
summary_lawful L s = summary_law L (engine L) s

pub bits_lawful : BitLaw
bits_lawful = bit_law (engine verdicts_lawful)
