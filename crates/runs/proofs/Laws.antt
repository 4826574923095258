-- The law of whole runs, for watches and summaries, over what the calls do to the table of a log. Assumes nothing.
use Rattle.std.proofs.Common.{◌≡◌, ℕ, zero, suc, ◌<◌, not, eqb, List, [], ◌∷◌, ◌++◌, length, Ok, Err, Result, sym, refl, ap, ◌∙◌, subst, subst₂, arith}
use Rattle.fault.specs.declared.WorkCause.TheVariants.{Differs, NoLetter}
use Rattle.fault.specs.declared.WorkFault.{WorkFault}
use Rattle.letter.specs.Heard.{Heard}
use Rattle.rule.specs.Spelling.{spelled}
use Rattle.rule.specs.Tree.{Rule}
use Rattle.runs.specs.Calls.{unless, differs, letter_answer, apply_answer, told, report_answer, Equal}
use Rattle.runs.specs.Promises.{Each, judged, Right, Between, Rising, ForGood, Stands, WatchLaw, SummaryLaw, BitLaw}
use Rattle.runs.specs.Runs.{Report, noted, Run}
use Rattle.runs.specs.States.{State, Form, watch, summary, short, opened}
use Rattle.runs.proofs.Checks.{past, onward, not_short, letter_accepted, apply_accepted, join_accepted, after_both}
use Rattle.runs.proofs.Holding.{Held, HeldFor, each_append, opening_held, letter_held, apply_held, built_held, made_held, nested_held, makes}
use Rattle.runs.proofs.Owed.{Owed}
use Rattle.scale.specs.Laws.{Algebra, Lawful, Below}
use Rattle.scale.specs.Verdicts.{verdicts}
use Rattle.scale.proofs.VerdictLaws.{verdicts_lawful}
use Rattle.semantics.specs.Continuations.{Settling, heard_along}
use Rattle.semantics.specs.Later.{Bounded}
use Rattle.semantics.specs.Reports as position
use Rattle.semantics.proofs.BitLogs.{verdicts_settle}
use Rattle.semantics.proofs.Longer.{later}
use Rattle.semantics.proofs.Settling.{settles}
use Rattle.std.specs.Str.{bytes_eq}
use Rattle.std.proofs.lemmas.List.{append_assoc, append-nil}
use Rattle.std.proofs.lemmas.Bool.{eqb-false}

each_map : {X : Type 0} (P Q : X → Type 0) → ((x : X) → P x → Q x) → (xs : List X) → Each P xs → Each Q xs
each_map P Q f [] p = tt
each_map P Q f (x ∷ xs) p = (f x p.0, each_map P Q f xs p.1)

-- two answers that agree where there is a letter
from_a_letter : {X : Type 0} (n : ℕ) (x y : X) → (0 < n → x ≡ y)
    → unless (eqb n 0) NoLetter (Ok x) ≡ unless (eqb n 0) NoLetter (Ok y)
from_a_letter zero x y f = refl
from_a_letter (suc n) x y f = ap (λ z. unless (eqb (suc n) 0) NoLetter (Ok z)) (f (omega arith))

abbrev value_or : {X : Type 0} → X → Result X WorkFault → X
value_or x (Ok y) = y
value_or x (Err fault) = x

module _ {S : Type 0} (A : Algebra S) where
  -- an accepted report has a letter to judge, and the position rules' values
  from_judged : (own r : Rule) (log : List (Heard S)) (values : S × S × S) → judged A own r log ≡ Ok values
      → (0 < length log) × (values ≡ position.report A own log)
  from_judged own r log values e =
      let p = past (not (bytes_eq (spelled r) (spelled own))) _ _ values e in
      let q = past (eqb (length log) 0) _ _ values p.1 in
      (omega (arith, eqb-false (length log) 0 q.0), sym (ap (value_or values) q.1))

  -- what was right on a log is right on the longer log
  right_longer : (own : Rule) (log more : List (Heard S)) (x : Report S) → Right A own log x → Right A own (log ++ more) x
  right_longer own log more x h = record {
    some = h.some;
    since = h.since ++ more;
    begins = ap (λ xs. xs ++ more) h.begins ∙ append_assoc x.read h.since more;
    verdict_is = h.verdict_is;
    floor_is = h.floor_is;
    ceiling_is = h.ceiling_is;
  }

  rising_more : (reports : List (Report S)) (x : Report S) → Rising A reports → Each (λ y. Between A y x) reports → Rising A (reports ++ x ∷ [])
  rising_more [] x h p = (tt, tt)
  rising_more (y ∷ reports) x h p = (each_append (Between A y) reports (x ∷ []) h.0 (p.0, tt), rising_more reports x h.1 p.1)

-- a watch with its log and its reports
record Going {S : Type 0} (A : Algebra S) (w : State S) (log : List (Heard S)) (reports : List (Report S)) : Type 0 where
  watched : Held A watch w log
  right : Each (Right A w.rule log) reports
  rising : Rising A reports

module _ {S : Type 0} {A : Algebra S} (L : Lawful A) (E : Owed A) where
  -- a report call is answered by the position rules
  answered : (form : Form) (r : Rule) (s : State S) (log : List (Heard S)) → Held A form s log
      → report_answer A form r s ≡ judged A s.rule r log
  answered form r s log h = onward (short form s) _ _ (not_short form s h.room)
      ∙ ap (unless (differs r s) Differs) (ap (λ n. unless (eqb n 0) NoLetter (Ok (told A s))) h.counts
      ∙ from_a_letter (length log) _ _ (λ some. E.told_of form s log some h.rows))

  -- the report on the log lies between what an earlier report bounds
  lies_between : (own : Rule) (log : List (Heard S)) (x : Report S) → x.read ≡ log → Right A own log x
      → (y : Report S) → Right A own log y → Between A y x
  lies_between own log x e h y g = record {
    floor_verdict = subst₂ (Below A) (sym g.floor_is) (sym verdict_is) bounded.floor_verdict;
    floor_floor = subst₂ (Below A) (sym g.floor_is) (sym floor_is) bounded.floor_floor;
    floor_ceiling = subst₂ (Below A) (sym g.floor_is) (sym ceiling_is) bounded.floor_ceiling;
    verdict_ceiling = subst₂ (Below A) (sym verdict_is) (sym g.ceiling_is) bounded.ceiling_verdict;
    floor_below = subst₂ (Below A) (sym floor_is) (sym g.ceiling_is) bounded.ceiling_floor;
    ceiling_below = subst₂ (Below A) (sym ceiling_is) (sym g.ceiling_is) bounded.ceiling_ceiling;
  }
    where
      whole : x.read ≡ y.read ++ g.since
      whole = e ∙ g.begins

      verdict_is : x.verdict ≡ position.verdict A own (y.read ++ g.since)
      verdict_is = h.verdict_is ∙ ap (position.verdict A own) whole

      floor_is : x.floor ≡ position.floor A own (y.read ++ g.since)
      floor_is = h.floor_is ∙ ap (position.floor A own) whole

      ceiling_is : x.ceiling ≡ position.ceiling A own (y.read ++ g.since)
      ceiling_is = h.ceiling_is ∙ ap (position.ceiling A own) whole

      bounded : Bounded A own y.read g.since
      bounded = later L own y.read g.since g.some

  going_report : (r : Rule) (w : State S) (log : List (Heard S)) (reports : List (Report S)) (answer : Result (S × S × S) WorkFault)
      → answer ≡ judged A w.rule r log → Going A w log reports → Going A w log (noted reports log answer)
  going_report r w log reports (Err fault) e g = g
  going_report r w log reports (Ok values) e g = record {
    watched = g.watched;
    right = each_append (Right A w.rule log) reports (x ∷ []) g.right (newest, tt);
    rising = rising_more A reports x g.rising (each_map (Right A w.rule log) (λ y. Between A y x) (lies_between w.rule log x refl newest) reports g.right);
  }
    where
      x : Report S
      x = record { read = log; verdict = values.0; floor = values.1; ceiling = values.2 }

      given : (0 < length log) × (values ≡ position.report A w.rule log)
      given = from_judged A w.rule r log values (sym e)

      newest : Right A w.rule log x
      newest = record {
        some = given.0;
        since = [];
        begins = sym (append-nil log);
        verdict_is = ap (λ v. v.0) given.1;
        floor_is = ap (λ v. v.1) given.1;
        ceiling_is = ap (λ v. v.2) given.1;
      }

  -- a state of the same rule that holds the longer log
  going_on : (w v : State S) (log more : List (Heard S)) (reports : List (Report S)) → w.rule ≡ v.rule → Held A watch v (log ++ more)
      → Going A w log reports → Going A v (log ++ more) reports
  going_on w v log more reports e h g = record {
    watched = h;
    right = subst (λ own. Each (Right A own (log ++ more)) reports) e
        (each_map (Right A w.rule log) (Right A w.rule (log ++ more)) (right_longer A w.rule log more) reports g.right);
    rising = g.rising;
  }

  run_going : {w : State S} {log : List (Heard S)} {reports : List (Report S)} → Run A w log reports → Going A w log reports
  run_going (Run.opening r buffer h) = record { watched = opening_held E watch r buffer h; right = tt; rising = tt }
  run_going (Run.letter {w} {log} {reports} r l spare run) =
      let g = run_going run in
      after_both (λ w log. Going A w log reports) (letter_answer A watch r w l spare) _ _ _ _
      (λ e. going_on w _ log (l ∷ []) reports refl (letter_held E watch r w l spare log (λ _. g.watched) e) g) g
  run_going (Run.apply {w} {log} {reports} r s volume spare run built) =
      let g = run_going run in
      after_both (λ w log. Going A w log reports) (apply_answer A r w s spare) _ _ _ _
      (λ e. going_on w _ log volume reports refl (apply_held E r w s spare log volume g.watched (built_held E (built e)) e) g) g
  run_going (Run.report {w} {log} {reports} r run) =
      let g = run_going run in
      going_report r w log reports (report_answer A watch r w) (answered watch r w log g.watched) g

  -- summaries of one rule and one volume are equal
  same_summary : (own : Rule) (volume : List (Heard S)) (s t : State S) → HeldFor A own s volume → HeldFor A own t volume → Equal A s t
  same_summary own volume s t h g = record {
    texts = ap spelled (h.1 ∙ sym g.1);
    counts = h.0.counts ∙ sym g.0.counts;
    tables = E.same_rows summary s t volume (h.1 ∙ sym g.1) h.0.room g.0.room h.0.rows g.0.rows;
  }

  -- a summary of the watch's log stands for it
  stands_for : (w s : State S) (log : List (Heard S)) → Held A watch w log → HeldFor A w.rule s log → Stands A w s
  stands_for w s log h g = record {
    counts = g.0.counts ∙ sym h.counts;
    answers = λ r. answered summary r s log g.0 ∙ (ap (λ own. judged A own r log) g.1 ∙ sym (answered watch r w log h));
  }

  for_good : (own : Rule) (log : List (Heard S)) → Settling A → (x : Report S) → Right A own log x → ForGood A own x
  for_good own log settling x h endless continues =
      let settled = settles L settling own x.read endless h.some continues in
      ((λ e. settled.verdict_best (sym h.verdict_is ∙ e)), (λ e. settled.verdict_worst (sym h.verdict_is ∙ e)))

  pub watch_law : (w : State S) → WatchLaw A w
  watch_law w log reports run = record {
    counts = held.counts;
    within = held.within;
    fit = held.fit;
    answers = λ r. answered watch r w log held;
    right = state.right;
    rising = state.rising;
    volumes = λ parts e summaries separate s nested whole made.
        let h = subst (HeldFor A w.rule s) e (nested_held E w.rule parts nested separate) in
        let g = made_held E made in
        (same_summary w.rule log s whole h g, stands_for w s log held h, stands_for w whole log held g);
    for_good = λ settling. each_map (Right A w.rule log) (ForGood A w.rule) (for_good w.rule log settling) reports state.right;
    reads = λ l spare fit enough few. letter_accepted A watch w.rule w l spare
        (record { room = held.room; rules = refl; spares = enough; fit = fit; few = omega (arith, held.counts) });
    takes = λ s volume spare built same room enough few.
        let h = built_held E built room in
        apply_accepted A w.rule w s spare (record {
          room = held.room;
          summary_room = room;
          rules = refl;
          summary_rules = same;
          spares = enough;
          few = omega (arith, held.counts, h.counts);
        });
    makes = makes E w.rule;
    joins = λ left right few some rest some_made rest_made s t nested also buffer room.
        let h = nested_held E w.rule left nested some_made in
        let g = nested_held E w.rule right also rest_made in
        join_accepted A w.rule s t (opened A summary w.rule buffer) (record {
          first_room = h.0.room;
          second_room = g.0.room;
          third_room = (opening_held E summary w.rule buffer room).room;
          first_rules = h.1;
          second_rules = g.1;
          third_rules = refl;
          few = omega (arith, h.0.counts, g.0.counts);
        });
  }
    where
      state : Going A w log reports
      state = run_going run

      held : Held A watch w log
      held = state.watched

  pub summary_law : (s : State S) → SummaryLaw A s
  summary_law s volume built room = record {
    counts = held.counts;
    within = held.within;
    fit = held.fit;
    answers = λ r. answered summary r s volume held;
    equals = λ t made. same_summary s.rule volume s t (held, refl) (made_held E made);
  }
    where
      held : Held A summary s volume
      held = built_held E built room

pub bit_law : Owed verdicts → BitLaw
bit_law E w log reports run = each_map _ _ (λ x good endless continues. good (heard_along endless) continues) reports
    ((watch_law verdicts_lawful E w log reports run).for_good verdicts_settle)
