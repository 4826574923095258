-- Accepted calls: what they say of their arguments, and what is enough for them. Assumes nothing.
use Rattle.std.proofs.Common.{◌≡◌, ℕ, ◌+◌, ◌≤◌, Bool, true, false, ◌||◌, ltb, List, length, Some, None, Ok, Err, Option, Result, sym, refl, ap, ◌∙◌, subst}
use Rattle.fault.specs.declared.WorkCause.{WorkCause}
use Rattle.fault.specs.declared.WorkFault.{WorkFault}
use Rattle.letter.specs.Heard.{Heard}
use Rattle.rule.specs.Spelling.{spelled}
use Rattle.rule.specs.Tree.{Rule}
use Rattle.rule.proofs.Sentences.{one_reading}
use Rattle.runs.specs.Calls.{most_letters, spare_needed, Answer, unless, unless_unfit, after, differs, letter_answer, apply_answer, join_answer}
use Rattle.runs.specs.States.{State, Form, watch, summary, table_size, short}
use Rattle.scale.specs.Laws.{Algebra}
use Rattle.std.proofs.lemmas.Slice.Eq.{bytes_eq-Decides}
use Rattle.std.proofs.lemmas.Bool.{ltb-false, le-ltb, not-false, not_from_true, or_parts, or_from, cond-false}

abbrev Accepted : {X : Type 0} → Result X WorkFault → Type 0
Accepted (Ok x) = Unit {0}
Accepted (Err fault) = ⊥

pub refused_not : {X Y : Type 0} {x : X} {fault : WorkFault} → Err fault ≡ Ok x → Y
refused_not e = absurd (subst Accepted (sym e) tt)

-- a check that an accepted answer came past
pub past : {X : Type 0} (fails : Bool) (cause : WorkCause) (rest : Result X WorkFault) (x : X) → unless fails cause rest ≡ Ok x
    → (fails ≡ false) × (rest ≡ Ok x)
past true cause rest x e = refused_not e
past false cause rest x e = (refl, e)

past_fit : (unfit : Option ℕ) (rest : Answer) → unless_unfit unfit rest ≡ Ok tt → (unfit ≡ None) × (rest ≡ Ok tt)
past_fit None rest e = (refl, e)
past_fit (Some channel) rest e = refused_not e

-- an answer whose check does not fail is the rest's
pub onward : {X : Type 0} (fails : Bool) (cause : WorkCause) (rest : Result X WorkFault) → fails ≡ false → unless fails cause rest ≡ rest
onward fails cause rest e = cond-false fails _ _ e

onward_fit : (unfit : Option ℕ) (rest : Answer) → unfit ≡ None → unless_unfit unfit rest ≡ rest
onward_fit unfit rest e = ap (λ u. unless_unfit u rest) e

module _ {S : Type 0} where
  abbrev pub Roomy : Form → State S → Type 0
  Roomy form s = table_size form s.rule ≤ length s.buffer

  long_enough : (form : Form) (s : State S) → short form s ≡ false → Roomy form s
  long_enough form s e = ltb-false _ _ e

  pub not_short : (form : Form) (s : State S) → Roomy form s → short form s ≡ false
  not_short form s h = le-ltb _ _ h

  same_rule : (r : Rule) (s : State S) → differs r s ≡ false → s.rule ≡ r
  same_rule r s e = sym (one_reading r s.rule ((bytes_eq-Decides (spelled r) (spelled s.rule)).0 (not-false _ e)))

  pub not_differs : (r : Rule) (s : State S) → s.rule ≡ r → differs r s ≡ false
  not_differs r s e = not_from_true _ ((bytes_eq-Decides (spelled r) (spelled s.rule)).1 (ap spelled (sym e)))

module _ {S : Type 0} (A : Algebra S) where
  -- what an accepted letter call says of its arguments, and these of it
  pub record LetterFacts (form : Form) (r : Rule) (s : State S) (l : Heard S) (spare : List S) : Type 0 where
    pub room : Roomy form s
    pub rules : s.rule ≡ r
    pub spares : spare_needed ≤ length spare
    pub fit : l.unfit ≡ None
    pub few : s.count + 1 ≤ most_letters

  pub letter_facts : (form : Form) (r : Rule) (s : State S) (l : Heard S) (spare : List S) → letter_answer A form r s l spare ≡ Ok tt
      → LetterFacts form r s l spare
  letter_facts form r s l spare e =
      let a = past (short form s) _ _ tt e in
      let b = past (differs r s) _ _ tt a.1 in
      let c = past (ltb (length spare) spare_needed) _ _ tt b.1 in
      let d = past_fit l.unfit _ c.1 in
      let f = past (ltb most_letters (s.count + 1)) _ _ tt d.1 in
      record {
        room = long_enough form s a.0;
        rules = same_rule r s b.0;
        spares = ltb-false _ _ c.0;
        fit = d.0;
        few = ltb-false _ _ f.0;
      }

  pub letter_accepted : (form : Form) (r : Rule) (s : State S) (l : Heard S) (spare : List S) → LetterFacts form r s l spare
      → letter_answer A form r s l spare ≡ Ok tt
  letter_accepted form r s l spare f =
      onward (short form s) _ _ (not_short form s f.room)
      ∙ onward (differs r s) _ _ (not_differs r s f.rules)
      ∙ onward (ltb (length spare) spare_needed) _ _ (le-ltb _ _ f.spares)
      ∙ onward_fit l.unfit _ f.fit
      ∙ onward (ltb most_letters (s.count + 1)) _ _ (le-ltb _ _ f.few)

  -- the same for an apply call
  pub record ApplyFacts (r : Rule) (w s : State S) (spare : List S) : Type 0 where
    pub room : Roomy watch w
    pub summary_room : Roomy summary s
    pub rules : w.rule ≡ r
    pub summary_rules : s.rule ≡ r
    pub spares : spare_needed ≤ length spare
    pub few : w.count + s.count ≤ most_letters

  pub apply_facts : (r : Rule) (w s : State S) (spare : List S) → apply_answer A r w s spare ≡ Ok tt → ApplyFacts r w s spare
  apply_facts r w s spare e =
      let a = past (short watch w || short summary s) _ _ tt e in
      let b = past (differs r w || differs r s) _ _ tt a.1 in
      let c = past (ltb (length spare) spare_needed) _ _ tt b.1 in
      let d = past (ltb most_letters (w.count + s.count)) _ _ tt c.1 in
      record {
        room = long_enough watch w (or_parts _ _ a.0).0;
        summary_room = long_enough summary s (or_parts _ _ a.0).1;
        rules = same_rule r w (or_parts _ _ b.0).0;
        summary_rules = same_rule r s (or_parts _ _ b.0).1;
        spares = ltb-false _ _ c.0;
        few = ltb-false _ _ d.0;
      }

  pub apply_accepted : (r : Rule) (w s : State S) (spare : List S) → ApplyFacts r w s spare → apply_answer A r w s spare ≡ Ok tt
  apply_accepted r w s spare f =
      onward (short watch w || short summary s) _ _ (or_from _ _ (not_short watch w f.room) (not_short summary s f.summary_room))
      ∙ onward (differs r w || differs r s) _ _ (or_from _ _ (not_differs r w f.rules) (not_differs r s f.summary_rules))
      ∙ onward (ltb (length spare) spare_needed) _ _ (le-ltb _ _ f.spares)
      ∙ onward (ltb most_letters (w.count + s.count)) _ _ (le-ltb _ _ f.few)

  -- the same for a join call
  pub record JoinFacts (r : Rule) (first second third : State S) : Type 0 where
    pub first_room : Roomy summary first
    pub second_room : Roomy summary second
    pub third_room : Roomy summary third
    pub first_rules : first.rule ≡ r
    pub second_rules : second.rule ≡ r
    pub third_rules : third.rule ≡ r
    pub few : first.count + second.count ≤ most_letters

  pub join_facts : (r : Rule) (first second third : State S) → join_answer A r first second third ≡ Ok tt → JoinFacts r first second third
  join_facts r first second third e =
      let a = past (short summary first || short summary second || short summary third) _ _ tt e in
      let b = past (differs r first || differs r second || differs r third) _ _ tt a.1 in
      let c = past (ltb most_letters (first.count + second.count)) _ _ tt b.1 in
      let shorts = or_parts (short summary first || short summary second) (short summary third) a.0 in
      let texts = or_parts (differs r first || differs r second) (differs r third) b.0 in
      record {
        first_room = long_enough summary first (or_parts _ _ shorts.0).0;
        second_room = long_enough summary second (or_parts _ _ shorts.0).1;
        third_room = long_enough summary third shorts.1;
        first_rules = same_rule r first (or_parts _ _ texts.0).0;
        second_rules = same_rule r second (or_parts _ _ texts.0).1;
        third_rules = same_rule r third texts.1;
        few = ltb-false _ _ c.0;
      }

  pub join_accepted : (r : Rule) (first second third : State S) → JoinFacts r first second third → join_answer A r first second third ≡ Ok tt
  join_accepted r first second third f =
      onward (short summary first || short summary second || short summary third) _ _
      (or_from _ _ (or_from _ _ (not_short summary first f.first_room) (not_short summary second f.second_room)) (not_short summary third f.third_room))
      ∙ onward (differs r first || differs r second || differs r third) _ _
      (or_from _ _ (or_from _ _ (not_differs r first f.first_rules) (not_differs r second f.second_rules)) (not_differs r third f.third_rules))
      ∙ onward (ltb most_letters (first.count + second.count)) _ _ (le-ltb _ _ f.few)

-- what holds of what an accepted call leaves, and of what there was, holds after the call
pub after_both : {X Y : Type 0} (P : X → Y → Type 0) (answer : Answer) (new old : X) (more same : Y)
    → (answer ≡ Ok tt → P new more) → P old same → P (after answer new old) (after answer more same)
after_both P (Ok u) new old more same f p = f refl
after_both P (Err fault) new old more same f p = p

pub after_accepted : {X : Type 0} (P : X → Type 0) (answer : Answer) (new old : X) → answer ≡ Ok tt → P new → P (after answer new old)
after_accepted P (Ok u) new old e p = p
after_accepted P (Err fault) new old e p = refused_not e
