-- What is answered to a letter's line of `logwatch`, and what that says of the log so far. Assumes nothing.
use Rattle.std.proofs.Common.{◌≡◌, ℕ, ◌<◌, eqb, List, [], ◌∷◌, ◌++◌, length, IfOk, Ok, Err, string_bytes, Result, String, sym, refl, ap, ◌∙◌, subst, subst₂, inl, inr, arith, length-append}
use Rattle.letter.specs.Bits.{bits_heard}
use Rattle.letter.specs.declared.bits.Bits.{Bits}
use Rattle.letter.specs.Heard.{Heard}
use Rattle.letter.specs.Lines.{four_digits}
use Rattle.watch_lines.proofs.Words.{one_letter}
use Rattle.lines.specs.Answers.{report_text}
use Rattle.watch_lines.specs.Watching.{Told, ForGood, LineAnswered, LineForGood}
use Rattle.rule.specs.Spelling.{spelled}
use Rattle.rule.specs.Tree.{Rule}
use Rattle.runs.specs.Calls.{after, differs, letter_answer, letter_state, letter_spare, with_letter, told, report_answer, count_answer}
use Rattle.runs.specs.Promises.{Each, BitForGood, Promise, judged}
use Rattle.runs.specs.Runs.{Report, Run, noted}
use Rattle.runs.specs.States.{State, watch, short}
use Rattle.runs.proofs.Checks.{refused_not, past, onward}
use Rattle.runs.proofs.Engine.{engine}
use Rattle.runs.proofs.Laws.{watch_law, bit_law}
use Rattle.scale.specs.declared.verdict.Verdict.{Verdict}
use Rattle.scale.specs.declared.verdict.Verdict.TheVariants.{Broken, BrokenSoFar, KeptSoFar, Kept}
use Rattle.scale.specs.Verdicts.{rank, verdicts}
use Rattle.scale.proofs.VerdictLaws.{verdicts_lawful}
use Rattle.semantics.specs.Reports as position
use Rattle.std.proofs.lemmas.Slice.Eq.{bytes_eq-Decides}
use Rattle.std.proofs.lemmas.Bool.{ne_eqb, not_from_true}
use Rattle.std.specs.declared.alloc.AllocError.{AllocError}
use Rattle.std.specs.declared.alloc.Global.{Global}

-- an accepted report is what the watch tells
told_values : (r : Rule) (s : State Verdict) (values : Verdict × Verdict × Verdict) → report_answer verdicts watch r s ≡ Ok values → told verdicts s ≡ values
told_values r s values e =
    let p = past (short watch s) _ _ values e in
    let q = past (differs r s) _ _ values p.1 in
    let t : Ok (told verdicts s) ≡ Ok values = (past (eqb s.count 0) _ _ values q.1).1 in
    cc

told_count : (s : State Verdict) (count : ℕ) → count_answer watch s ≡ Ok count → s.count ≡ count
told_count s count e =
    let t : Ok s.count ≡ Ok count = (past (short watch s) _ _ count e).1 in
    cc

-- the watch has read the letter and told how many there are and its report
pub answered_told : (r : Rule) (w : State Verdict) (spare : List Verdict) (line : List ℕ) (new : State Verdict) (left : List Verdict)
    → (letter : Bits) (values : Verdict × Verdict × Verdict) (count : ℕ) (x : Result (String Global) AllocError)
    → line ≡ four_digits letter.word → letter_answer verdicts watch r w (bits_heard letter) spare ≡ Ok tt
    → new ≡ letter_state verdicts watch r w (bits_heard letter) spare → left ≡ letter_spare verdicts watch r w (bits_heard letter) spare
    → report_answer verdicts watch r new ≡ Ok values → count_answer watch new ≡ Ok count
    → IfOk x (λ text. string_bytes text ≡ report_text count values)
    → LineAnswered r w spare line new left x
answered_told r w spare line new left letter values count (Ok text) is ok state_is spare_is reported counted said = inl (record {
  letter = letter;
  line_is = is;
  accepted = ok;
  state_is = state_is;
  spare_is = spare_is;
  text_is = said ∙ subst₂ (λ n v. report_text count values ≡ report_text n v) (sym (told_count new count counted)) (sym (told_values r new values reported)) refl;
})
answered_told r w spare line new left letter values count (Err e) is ok state_is spare_is reported counted said =
    inl (record { letter = letter; line_is = is; state_is = state_is; spare_is = spare_is })

is_kept : (v : Verdict) → rank v ≡ 3 → v ≡ Kept
is_kept Broken e = absurd (omega arith)
is_kept BrokenSoFar e = absurd (omega arith)
is_kept KeptSoFar e = absurd (omega arith)
is_kept Kept e = refl

is_broken : (v : Verdict) → rank v ≡ 0 → v ≡ Broken
is_broken Broken e = refl
is_broken BrokenSoFar e = absurd (omega arith)
is_broken KeptSoFar e = absurd (omega arith)
is_broken Kept e = absurd (omega arith)

each_last : {X : Type 0} (P : X → Type 0) (xs : List X) (x : X) → Each P (xs ++ x ∷ []) → P x
each_last P [] x h = h.0
each_last P (y ∷ xs) x h = each_last P xs x h.1

-- the own rule on a log that has a letter
judged_own : (own : Rule) (log : List (Heard Verdict)) → 0 < length log → judged verdicts own own log ≡ Ok (position.report verdicts own log)
judged_own own log some =
    onward _ _ _ (not_from_true _ ((bytes_eq-Decides (spelled own) (spelled own)).1 refl))
    ∙ onward _ _ _ (ne_eqb (length log) 0 (λ e. omega arith))

-- a watch with a letter more
module _ (w : State Verdict) (log : List (Heard Verdict)) (reports : List (Report Verdict)) (l : Heard Verdict) where
  abbrev then : State Verdict
  then = with_letter verdicts watch w l

  abbrev grown : List (Heard Verdict)
  grown = log ++ l ∷ []

  abbrev newest : Report Verdict
  newest = record {
    read = grown;
    verdict = position.verdict verdicts w.rule grown;
    floor = position.floor verdicts w.rule grown;
    ceiling = position.ceiling verdicts w.rule grown;
  }

  reads_on : (r : Rule) (spare : List Verdict) → Run verdicts w log reports → letter_answer verdicts watch r w l spare ≡ Ok tt → Run verdicts then grown reports
  reads_on r spare run ok =
      subst (λ answer. Run verdicts (after answer then w) (after answer grown log) reports) ok (Run.letter r l spare run)

  promised : Run verdicts then grown reports → Promise verdicts then grown reports
  promised run = watch_law verdicts_lawful (engine verdicts_lawful) then grown reports run

  own_report : Run verdicts then grown reports → report_answer verdicts watch w.rule then ≡ Ok (position.report verdicts w.rule grown)
  own_report run = (promised run).answers w.rule ∙ judged_own w.rule grown (omega (arith, length-append log (l ∷ [])))

  for_good : Run verdicts then grown reports → BitForGood w.rule newest
  for_good run =
      each_last (BitForGood w.rule) reports newest
      (bit_law (engine verdicts_lawful) then grown (reports ++ newest ∷ [])
      (subst (λ answer. Run verdicts then grown (noted reports grown answer)) (own_report run) (Run.report w.rule run)))

told_lasts : (r : Rule) (w : State Verdict) (spare : List Verdict) (line : List ℕ) (new : State Verdict) (left : List Verdict) (text : List ℕ)
    → (t : Told r w spare line new left text) (log : List (Heard Verdict)) (reports : List (Report Verdict)) → Run verdicts w log reports
    → ForGood w log t.letter text
told_lasts r w spare line new left text t log reports run = record {
  now = log ++ l ∷ [];
  now_is = refl;
  text_is = t.text_is
      ∙ (ap (λ s. report_text s.count (told verdicts s)) then_is
      ∙ subst₂ (λ n v. report_text (then w log reports l).count (told verdicts (then w log reports l)) ≡ report_text n v)
      (promised w log reports l on).counts (told_values w.rule (then w log reports l) _ (own_report w log reports l on)) refl);
  kept = λ e endless continues. (for_good w log reports l on endless continues).0 (is_kept _ e);
  broken = λ e endless continues. (for_good w log reports l on endless continues).1 (is_broken _ e);
}
  where
    l : Heard Verdict
    l = bits_heard t.letter

    on : Run verdicts (then w log reports l) (log ++ l ∷ []) reports
    on = reads_on w log reports l r spare run t.accepted

    then_is : new ≡ then w log reports l
    then_is = t.state_is ∙ ap (λ answer. after answer (then w log reports l) w) t.accepted

-- what a line says lasts
pub lasting : (r : Rule) (w : State Verdict) (spare : List Verdict) (line : List ℕ) (new : State Verdict) (left : List Verdict) (x : Result (String Global) AllocError)
    → LineAnswered r w spare line new left x → LineForGood r w spare line x
lasting r w spare line new left (Err e) h = tt
lasting r w spare line new left (Ok text) (inl t) = λ log reports run letter few is ok.
    subst (λ l. ForGood w log l (string_bytes text)) (one_letter t.letter letter (sym t.line_is ∙ is))
    (told_lasts r w spare line new left (string_bytes text) t log reports run)
lasting r w spare line new left (Ok text) (inr (inl t)) = λ log reports run letter few is ok.
    refused_not (sym t.refused
    ∙ (ap (λ l. letter_answer verdicts watch r w (bits_heard l) spare) (one_letter t.letter letter (sym t.line_is ∙ is)) ∙ ok))
lasting r w spare line new left (Ok text) (inr (inr t)) = λ log reports run letter few is ok. absurd (t.none letter.word few is)

-- some log and reports that a watch has come by
abbrev Ran : State Verdict → Type 0
Ran w = (log : List (Heard Verdict)) × (reports : List (Report Verdict)) × Run verdicts w log reports

ran_letter : (r : Rule) (w : State Verdict) (spare : List Verdict) (l : Heard Verdict) (new : State Verdict)
    → new ≡ letter_state verdicts watch r w l spare → Ran w → Ran new
ran_letter r w spare l new e (log, reports, run) = subst Ran (sym e) (_, reports, Run.letter r l spare run)

-- the next line finds a watch that has come by calls
pub ran_line : (r : Rule) (w : State Verdict) (spare : List Verdict) (line : List ℕ) (new : State Verdict) (left : List Verdict) (x : Result (String Global) AllocError)
    → LineAnswered r w spare line new left x → (log : List (Heard Verdict)) (reports : List (Report Verdict)) → Run verdicts w log reports → Ran new
ran_line r w spare line new left (Ok text) (inl t) log reports run = ran_letter r w spare (bits_heard t.letter) new t.state_is (log, reports, run)
ran_line r w spare line new left (Ok text) (inr (inl t)) log reports run = subst Ran (sym t.state_is) (log, reports, run)
ran_line r w spare line new left (Ok text) (inr (inr t)) log reports run = subst Ran (sym t.state_is) (log, reports, run)
ran_line r w spare line new left (Err e) (inl t) log reports run = ran_letter r w spare (bits_heard t.letter) new t.state_is (log, reports, run)
ran_line r w spare line new left (Err e) (inr t) log reports run = subst Ran (sym t.0) (log, reports, run)
