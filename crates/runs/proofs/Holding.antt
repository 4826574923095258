-- What a watch or summary keeps of its log through every call. Assumes nothing.
use Rattle.std.proofs.Common.{◌≡◌, ◌+◌, ◌≤◌, List, [], ◌∷◌, ◌++◌, length, replicate, Ok, sym, refl, ap, ◌∙◌, subst, ap₂, arith}
use Rattle.letter.specs.Heard.{Heard}
use Rattle.rule.specs.Tree.{Rule}
use Rattle.runs.specs.Calls.{most_letters, spare_needed, letter_answer, with_letter, letter_state, apply_answer, with_summary, join_answer, with_both, join_state}
use Rattle.runs.specs.Promises.{Each, Fit}
use Rattle.runs.specs.Runs.{Built, Made, Separate, Nested, in_turn}
use Rattle.runs.specs.States.{State, Form, watch, summary, table_size, opened}
use Rattle.runs.proofs.Checks.{Roomy, letter_facts, letter_accepted, apply_facts, join_facts, after_both, after_accepted}
use Rattle.runs.proofs.Owed.{OfLog, Owed}
use Rattle.scale.specs.Laws.{Algebra}
use Rattle.std.proofs.lemmas.List.{append_assoc, append-nil, length-append, length_push, length-replicate}

pub each_append : {X : Type 0} (P : X → Type 0) (xs ys : List X) → Each P xs → Each P ys → Each P (xs ++ ys)
each_append P [] ys p q = q
each_append P (x ∷ xs) ys p q = (p.0, each_append P xs ys p.1 q)

-- a state in a long enough buffer, and the log that its count and rows are of
pub record Held {S : Type 0} (A : Algebra S) (form : Form) (s : State S) (log : List (Heard S)) : Type 0 where
  pub room : Roomy form s
  pub counts : s.count ≡ length log
  pub within : length log ≤ most_letters
  pub fit : Each Fit log
  pub rows : OfLog A form s log

-- a summary of a rule
abbrev pub HeldFor : {S : Type 0} → Algebra S → Rule → State S → List (Heard S) → Type 0
HeldFor A own s volume = Held A summary s volume × (s.rule ≡ own)

in_turn_append : {S : Type 0} (left right : List (List (Heard S))) → in_turn (left ++ right) ≡ in_turn left ++ in_turn right
in_turn_append [] right = refl
in_turn_append (volume ∷ left) right = ap (λ rest. volume ++ rest) (in_turn_append left right) ∙ sym (append_assoc volume (in_turn left) (in_turn right))

module _ {S : Type 0} {A : Algebra S} where
  -- the volumes of the first summaries, and those of the others
  separated : (own : Rule) (left right : List (State S)) {parts : List (List (Heard S))} → Separate A own parts (left ++ right)
      → (some rest : List (List (Heard S))) × (parts ≡ some ++ rest) × Separate A own some left × Separate A own rest right
  separated own [] right {parts} p = ([], parts, refl, Separate.none, p)
  separated own (s ∷ left) right (Separate.more {volume} m p) =
      let (some, rest, e, q₁, q₂) = separated own left right p in
      (volume ∷ some, rest, ap (λ xs. volume ∷ xs) e, Separate.more m q₁, q₂)

module _ {S : Type 0} {A : Algebra S} (E : Owed A) where
  pub opening_held : (form : Form) (r : Rule) (buffer : List S) → table_size form r ≤ length buffer → Held A form (opened A form r buffer) []
  opening_held form r buffer h = record {
    room = subst (λ n. table_size form r ≤ n) (sym (E.opened_length form r buffer)) h;
    counts = refl;
    within = omega arith;
    fit = tt;
    rows = E.opened_of form r buffer h;
  }

  -- an accepted letter call adds its letter
  pub letter_held : (form : Form) (r : Rule) (s : State S) (l : Heard S) (spare : List S) (log : List (Heard S))
      → (Roomy form s → Held A form s log) → letter_answer A form r s l spare ≡ Ok tt → Held A form (with_letter A form s l) (log ++ l ∷ [])
  letter_held form r s l spare log held e =
      let f = letter_facts A form r s l spare e in
      let h = held f.room in
      record {
        room = subst (λ n. table_size form s.rule ≤ n) (sym (E.tabled_length form s.rule _ s.buffer f.room)) f.room;
        counts = ap (λ n. n + 1) h.counts ∙ sym (length_push log l);
        within = omega (arith, length_push log l, h.counts, f.few);
        fit = each_append Fit log (l ∷ []) h.fit (f.fit, tt);
        rows = E.letter_of form s log l f.room h.rows;
      }

  -- an accepted apply adds the summary's volume
  pub apply_held : (r : Rule) (w s : State S) (spare : List S) (log volume : List (Heard S))
      → Held A watch w log → (Roomy summary s → Held A summary s volume) → apply_answer A r w s spare ≡ Ok tt
      → Held A watch (with_summary A w s) (log ++ volume)
  apply_held r w s spare log volume h held e =
      let f = apply_facts A r w s spare e in
      let g = held f.summary_room in
      record {
        room = subst (λ n. table_size watch w.rule ≤ n) (sym (E.tabled_length watch w.rule _ w.buffer f.room)) f.room;
        counts = ap₂ ◌+◌ h.counts g.counts ∙ sym (length-append log volume);
        within = omega (arith, length-append log volume, h.counts, g.counts, f.few);
        fit = each_append Fit log volume h.fit g.fit;
        rows = E.apply_of w s log volume (f.summary_rules ∙ sym f.rules) f.room h.rows g.rows;
      }

  -- an accepted join gives the third the first's log and then the second's
  pub join_held : (r : Rule) (first second third : State S) (left right : List (Heard S))
      → (Roomy summary first → Held A summary first left) → (Roomy summary second → Held A summary second right)
      → join_answer A r first second third ≡ Ok tt → Held A summary (with_both A first second third) (left ++ right)
  join_held r first second third left right held also e =
      let f = join_facts A r first second third e in
      let h = held f.first_room in
      let g = also f.second_room in
      record {
        room = subst (λ n. table_size summary third.rule ≤ n) (sym (E.tabled_length summary third.rule _ third.buffer f.third_room)) f.third_room;
        counts = ap₂ ◌+◌ h.counts g.counts ∙ sym (length-append left right);
        within = omega (arith, length-append left right, h.counts, g.counts, f.few);
        fit = each_append Fit left right h.fit g.fit;
        rows = E.join_of first second third left right (f.first_rules ∙ sym f.third_rules) (f.second_rules ∙ sym f.third_rules) f.third_room
            h.rows g.rows;
      }

  pub built_held : {s : State S} {volume : List (Heard S)} → Built A s volume → Roomy summary s → Held A summary s volume
  built_held (Built.opening r buffer) = λ h. opening_held summary r buffer (subst (λ n. table_size summary r ≤ n) (E.opened_length summary r buffer) h)
  built_held (Built.letter {s} {volume} r l spare b) =
      after_both (λ s volume. Roomy summary s → Held A summary s volume) (letter_answer A summary r s l spare) _ _ _ _
      (λ e h. letter_held summary r s l spare volume (built_held b) e) (built_held b)
  built_held (Built.join {third} r first second left right b p q) =
      after_both (λ s volume. Roomy summary s → Held A summary s volume) (join_answer A r first second third) _ _ _ _
      (λ e h. join_held r first second third left right (built_held (p e)) (built_held (q e)) e) (built_held b)

  pub made_held : {own : Rule} {volume : List (Heard S)} {s : State S} → Made A own volume s → HeldFor A own s volume
  made_held {own} (Made.opening buffer h) = (opening_held summary own buffer h, refl)
  made_held {own} (Made.letter {volume} {s} r l spare m e) =
      let h = made_held m in
      after_accepted (λ t. HeldFor A own t (volume ++ l ∷ [])) (letter_answer A summary r s l spare) _ _ e
      (letter_held summary r s l spare volume (λ _. h.0) e, h.1)

  alone : {own : Rule} {s : State S} {parts : List (List (Heard S))} → Separate A own parts (s ∷ []) → HeldFor A own s (in_turn parts)
  alone {own} {s} (Separate.more {volume} m Separate.none) = subst (HeldFor A own s) (sym (append-nil volume)) (made_held m)

  pub nested_held : {summaries : List (State S)} {s : State S} (own : Rule) (parts : List (List (Heard S))) → Nested A summaries s
      → Separate A own parts summaries → HeldFor A own s (in_turn parts)
  nested_held own parts (Nested.one s) separate = alone separate
  nested_held own parts (Nested.joined {left} {right} {s} {t} r third p q e) separate =
      let (some, rest, d, some_made, rest_made) = separated own left right separate in
      let h = nested_held own some p some_made in
      let g = nested_held own rest q rest_made in
      let f = join_facts A r s t third e in
      subst (HeldFor A own (join_state A r s t third)) (sym (ap in_turn d ∙ in_turn_append some rest))
      (after_accepted (λ t. HeldFor A own t (in_turn some ++ in_turn rest)) (join_answer A r s t third) _ _ e
      (join_held r s t third (in_turn some) (in_turn rest) (λ _. h.0) (λ _. g.0) e, f.third_rules ∙ (sym f.first_rules ∙ h.1)))

  -- letter after letter
  further : (own : Rule) (done rest : List (Heard S)) (s : State S) → Made A own done s → Each Fit rest → length done + length rest ≤ most_letters
      → (t : State S) × Made A own (done ++ rest) t × (length t.buffer ≡ length s.buffer)
  further own done [] s m fit few = (s, subst (λ xs. Made A own xs s) (sym (append-nil done)) m, refl)
  further own done (l ∷ rest) s m fit few =
      let spare : List S = replicate spare_needed A.worst in
      let h = made_held m in
      let e = letter_accepted A summary own s l spare (record {
        room = h.0.room;
        rules = h.1;
        spares = omega (arith, length-replicate spare_needed A.worst);
        fit = fit.0;
        few = omega (arith, h.0.counts);
      }) in
      let (t, made, long) = further own (done ++ l ∷ []) rest (letter_state A summary own s l spare) (Made.letter own l spare m e) fit.1
      (omega (arith, length_push done l)) in (
        t,
        subst (λ xs. Made A own xs t) (append_assoc done (l ∷ []) rest) made,
        long ∙ after_accepted (λ (x : State S). length x.buffer ≡ length s.buffer) (letter_answer A summary own s l spare) _ _ e
            (E.tabled_length summary s.rule _ s.buffer h.0.room),
      )

  pub makes : (own : Rule) (volume : List (Heard S)) → Each Fit volume → length volume ≤ most_letters
      → (buffer : List S) → table_size summary own ≤ length buffer
      → (s : State S) × Made A own volume s × (length s.buffer ≡ length buffer)
  makes own volume fit few buffer h =
      let (t, made, long) = further own [] volume (opened A summary own buffer) (Made.opening buffer h) fit (omega arith) in
      (t, made, long ∙ E.opened_length summary own buffer)
