-- The laws of cards hold. Assumes nothing.
use Rattle.std.proofs.Common.{◌≡◌, ℕ, ◌+◌, ◌*◌, ◌^◌, ◌<◌, ◌≤◌, Bool, true, false, not, eqb, ltb, List, [], ◌∷◌, ◌++◌, length, get_or, take, drop, Some, None, Ok, Err, Option, Result, sym, refl, ap, ◌∙◌, subst, ap₂, inl, inr, ⊎_elim, mul-le-mul, arith}
use Rattle.fault.specs.declared.CardFault.{CardFault}
use Rattle.format.specs.Bytes.{four_bytes, field, codes_of, values_of, card_of, LawfulTable, Cardable}
use Rattle.format.specs.Laws.{Writable, CardLaws}
use Rattle.format.specs.Reading.{field_read, text_fits, four_number, If, On, Codes, Refuses, Fills, Tabled, ReadsRows, ReadsCount, ReadsScale, ReadsText, CardRead}
use Rattle.format.proofs.Coded.{codes_length, codes_same, as_many, never_both, codes_once}
use Rattle.format.proofs.Fields.{refused_not, AllBytes, four_forth, four_back, one_byte, field_forth, same_field, field_back}
use Rattle.format.proofs.Summed.{built_lawful}
use Rattle.rule.specs.declared.leaf.Channel.{Channel}
use Rattle.rule.specs.declared.leaf.Kind.TheVariants.{SomeStrong, SomeWeak, EveryStrong, EveryWeak}
use Rattle.rule.specs.Spelling.{test_of, spelled}
use Rattle.rule.specs.Tree.{Rule, letter, negated, both, any, next, until, release}
use Rattle.runs.specs.Calls.{most_letters, Equal}
use Rattle.runs.specs.States.{State, summary, short, cells_of_rule, table_size}
use Rattle.scale.specs.Codes.{Coding, Sound}
use Rattle.scale.specs.Laws.{Algebra, Lawful}
use Rattle.std.specs.Str.{bytes_eq}
use Rattle.std.proofs.lemmas.Nat.{pow_below}
use Rattle.std.proofs.lemmas.Slice.Eq.{bytes_eq-Decides}
use Rattle.std.proofs.lemmas.List.{append-nil, length-append, length-take-le, take_at, drop_at, nil_from_length}
use Rattle.std.proofs.lemmas.Bool.{ltb-false, le-ltb, eqb-true, eq-eqb, not-false, not_from_true, not_from_false, and_from, cases_lt}

-- every rule text has a byte
test_some : (c : Option Channel) (opposite : Bool) → 1 ≤ length (test_of c opposite)
test_some None false = omega arith
test_some None true = omega arith
test_some (Some c) false = omega arith
test_some (Some c) true = omega arith

spelled_some : (r : Rule) → 1 ≤ length (spelled r)
spelled_some (letter t) = test_some t.channel t.opposite
spelled_some (negated r) = omega arith
spelled_some (both r s) = omega arith
spelled_some (any r s) = omega arith
spelled_some (next SomeStrong a r) = omega arith
spelled_some (next SomeWeak a r) = omega arith
spelled_some (next EveryStrong a r) = omega arith
spelled_some (next EveryWeak a r) = omega arith
spelled_some (until k r a s) = omega arith
spelled_some (release k r a s) = omega arith

text_ok : (r : Rule) → length (spelled r) ≤ 96 → text_fits (length (spelled r)) ≡ true
text_ok r h = and_from _ _ (not_from_false _ (le-ltb _ _ (spelled_some r))) (not_from_false _ (le-ltb _ _ h))

-- a table of eight cells has at most 2,048 values
pow_few : (n : ℕ) → n ≤ 8 → 2 ^ n ≤ 256
pow_few n h = ⊎_elim (λ l. omega (arith, pow_below n 8 l))
    (λ l. let same : n ≡ 8 = omega arith in subst (λ m. 2 ^ m ≤ 256) (sym same) (omega arith)) (cases_lt n 8)

table_few : (r : Rule) → cells_of_rule r ≤ 8 → table_size summary r ≤ 2048
table_few r h = omega (arith, mul-le-mul h (pow_few (cells_of_rule r) h))

-- what is answered past a test that does not fail, and past a field that is there
at_if : (P Q : Type 0) (b : Bool) → b ≡ false → If b P Q → Q
at_if P Q b e c = subst (λ t. If t P Q) e c

at_on : {X : Type 0} (P : X → Type 0) (Q : CardFault → Type 0) (f : Result X CardFault) (x : X) → f ≡ Ok x → On f P Q → P x
at_on P Q f x e c = subst (λ g. On g P Q) e c

module _ {S : Type 0} where
  values_length : (s : State S) → table_size summary s.rule ≤ length s.buffer → length (values_of s) ≡ table_size summary s.rule
  values_length s h = length-take-le (table_size summary s.rule) s.buffer h

module _ {S : Type 0} (C : Coding S) where
  -- the fields after the text, after the scale and after the count
  abbrev third_on : State S → List ℕ
  third_on s = field 3 (four_bytes s.count) ++ field 4 (codes_of C (values_of s))

  abbrev second_on : State S → List ℕ
  second_on s = field 2 (C.number ∷ []) ++ third_on s

  last_field : (s : State S) → field 4 (codes_of C (values_of s)) ≡ field 4 (codes_of C (values_of s)) ++ []
  last_field s = sym (append-nil (field 4 (codes_of C (values_of s))))

module _ {S : Type 0} {C : Coding S} (sound : Sound C) where
  -- the bytes of the rows fit their field
  rows_length : (s : State S) → table_size summary s.rule ≤ length s.buffer
      → length (codes_of C (values_of s)) ≡ table_size summary s.rule * C.width
  rows_length s h = codes_length sound (values_of s) ∙ ap (λ n. n * C.width) (values_length s h)

  rows_small : (s : State S) → table_size summary s.rule ≤ length s.buffer → cells_of_rule s.rule ≤ 8
      → length (codes_of C (values_of s)) < 65536
  rows_small s h few = omega (arith, rows_length s h, mul-le-mul (table_few s.rule few) sound.small_width)

module _ {S : Type 0} (A : Algebra S) {C : Coding S} (sound : Sound C) where
  equal_cards : (s t : State S) → Writable s → Writable t → card_of C s ≡ card_of C t → Equal A s t
  equal_cards s t h g e =
      let p = same_field 1 (spelled s.rule) (spelled t.rule) (second_on C s) (second_on C t) (omega (arith, h.text)) (omega (arith, g.text)) e in
      let q = same_field 2 (C.number ∷ []) (C.number ∷ []) (third_on C s) (third_on C t) (omega arith) (omega arith) p.1 in
      let r = same_field 3 (four_bytes s.count) (four_bytes t.count) (field 4 (codes_of C (values_of s))) (field 4 (codes_of C (values_of t)))
      (omega arith) (omega arith) q.1 in
      let u = same_field 4 (codes_of C (values_of s)) (codes_of C (values_of t)) [] [] (rows_small sound s h.long h.few) (rows_small sound t g.long g.few)
      (sym (last_field C s) ∙ (r.1 ∙ last_field C t)) in
      record {
        texts = p.0;
        counts = sym (four_forth s.count h.small) ∙ (ap four_number r.0 ∙ four_forth t.count g.small);
        tables = codes_same sound (values_of s) (values_of t) u.0;
      }

  module _ (old new : State S) (r : Result (Unit {0}) CardFault) where
    -- a whole lawful table with no byte left over is filled in
    filled : (place count : ℕ) (bytes : List ℕ) (values : List S) (found : Result (List S) ℕ) → bytes ≡ codes_of C values
        → LawfulTable A old.rule count values → Codes C bytes found → Tabled A C old new r place count [] found → Fills A C old new r count values
    filled place count bytes values (Err bad) e lawful codes c = absurd (never_both sound bytes values bad e codes)
    filled place count bytes values (Ok others) e lawful codes (inl (bad, c)) =
        absurd (bad (subst (LawfulTable A old.rule count) (codes_same sound values others (sym e ∙ codes)) lawful))
    filled place count bytes values (Ok others) e lawful codes (inr (good, c)) =
        subst (Fills A C old new r count) (codes_same sound others values (sym codes ∙ e)) c

    -- the fields of a card, read in turn
    module _ (s : State S) (h : Cardable A s) (same : s.rule ≡ old.rule) where
      rows_read : (place : ℕ) → ReadsRows A C old new r s.count place (field 4 (codes_of C (values_of s))) → Fills A C old new r s.count (values_of s)
      rows_read place c =
          let fits = eq-eqb (table_size summary old.rule * C.width) (length (codes_of C (values_of s)))
          (ap (λ own. table_size summary own * C.width) (sym same) ∙ sym (rows_length sound s h.long)) in
          let (found, codes, d) = at_on _ _ (field_read 4 (eqb (table_size summary old.rule * C.width)) place (field 4 (codes_of C (values_of s)))) _
          (ap (field_read 4 (eqb (table_size summary old.rule * C.width)) place) (last_field C s)
          ∙ field_forth 4 (eqb (table_size summary old.rule * C.width)) place (codes_of C (values_of s)) [] fits (rows_small sound s h.long h.few)) c in
          filled place s.count (codes_of C (values_of s)) (values_of s) found refl
          (subst (λ own. LawfulTable A own s.count (values_of s)) same h.lawful) codes d

      count_read : (place : ℕ) → ReadsCount A C old new r place (third_on C s) → Fills A C old new r s.count (values_of s)
      count_read place c =
          let number : four_number (four_bytes s.count) ≡ s.count = four_forth s.count (omega (arith, h.within)) in
          let d = at_if _ _ (ltb most_letters (four_number (four_bytes s.count))) (le-ltb _ _ (subst (λ n. n ≤ most_letters) (sym number) h.within))
          (at_on _ _ (field_read 3 (eqb 4) place (third_on C s)) _
          (field_forth 3 (eqb 4) place (four_bytes s.count) (field 4 (codes_of C (values_of s))) refl (omega arith)) c) in
          rows_read (place + 7) (subst (λ n. ReadsRows A C old new r n (place + 7) (field 4 (codes_of C (values_of s)))) number d)

      scale_read : (place : ℕ) → ReadsScale A C old new r place (second_on C s) → Fills A C old new r s.count (values_of s)
      scale_read place c = count_read (place + 4)
          (at_if _ _ (not (eqb C.number C.number)) (not_from_true _ (eq-eqb C.number C.number refl))
          (at_on _ _ (field_read 2 (eqb 1) place (second_on C s)) _ (field_forth 2 (eqb 1) place (C.number ∷ []) (third_on C s) refl (omega arith)) c))

      text_read : ReadsText A C old new r (card_of C s) → Fills A C old new r s.count (values_of s)
      text_read c = scale_read (3 + length (spelled s.rule))
          (at_if _ _ (not (bytes_eq (spelled s.rule) (spelled old.rule)))
          (not_from_true _ ((bytes_eq-Decides (spelled s.rule) (spelled old.rule)).1 (ap spelled same)))
          (at_on _ _ (field_read 1 text_fits 0 (card_of C s)) _
          (field_forth 1 text_fits 0 (spelled s.rule) (second_on C s) (text_ok s.rule h.text) (omega (arith, h.text))) c))

  back : (s old new : State S) (r : Result (Unit {0}) CardFault) → Cardable A s → s.rule ≡ old.rule
      → table_size summary old.rule ≤ length old.buffer
      → CardRead A C old new r (card_of C s) → (r ≡ Ok tt) × Equal A new s
  back s old new r h same long c =
      let (answer, FilledIn) = text_read old new r s h same (at_if _ _ (short summary old) (le-ltb _ _ long) c) in (
        answer,
        subst (λ t. Equal A t s) (sym FilledIn) (record {
          texts = ap spelled (sym same);
          counts = refl;
          tables = take_at (values_of s) (drop (length (values_of s)) old.buffer) (table_size summary old.rule)
              (values_length s h.long ∙ ap (table_size summary) same);
        }),
      )

  -- two readings of the same bytes
  module _ (old new other : State S) (r q : Result (Unit {0}) CardFault) where
    abbrev Agree : Type 0
    Agree = (r ≡ q) × (new ≡ other)

    agree_refused : (fault : CardFault) → Refuses A C old new r fault → Refuses A C old other q fault → Agree
    agree_refused fault c d = (c.0 ∙ sym d.0, c.1 ∙ sym d.1)

    agree_on : {X : Type 0} (P Q : X → Type 0) (f : Result X CardFault) → ((x : X) → P x → Q x → Agree)
        → On f P (Refuses A C old new r) → On f Q (Refuses A C old other q) → Agree
    agree_on P Q (Ok x) go c d = go x c d
    agree_on P Q (Err fault) go c d = agree_refused fault c d

    agree_if : (P Q : Type 0) (b : Bool) (fault : CardFault) → (P → Q → Agree)
        → If b (Refuses A C old new r fault) P → If b (Refuses A C old other q fault) Q → Agree
    agree_if P Q true fault go c d = agree_refused fault c d
    agree_if P Q false fault go c d = go c d

    agree_tabled : (place count : ℕ) (rest : List ℕ) (found : Result (List S) ℕ)
        → Tabled A C old new r place count rest found → Tabled A C old other q place count rest found → Agree
    agree_tabled place count rest (Err bad) c d = agree_refused _ c d
    agree_tabled place count rest (Ok values) (inl (bad, c)) (inl (also, d)) = agree_refused _ c d
    agree_tabled place count rest (Ok values) (inl (bad, c)) (inr (good, d)) = absurd (bad good)
    agree_tabled place count rest (Ok values) (inr (good, c)) (inl (bad, d)) = absurd (bad good)
    agree_tabled place count rest (Ok values) (inr (good, c)) (inr (also, d)) =
        agree_if _ _ (ltb 0 (length rest)) _ (λ x y. (x.0 ∙ sym y.0, x.1 ∙ sym y.1)) c d

    agree_rows : (count place : ℕ) (bytes : List ℕ) → ReadsRows A C old new r count place bytes → ReadsRows A C old other q count place bytes → Agree
    agree_rows count place bytes = agree_on _ _ (field_read 4 (eqb (table_size summary old.rule * C.width)) place bytes)
        (λ parts c d. agree_tabled place count parts.rest d.0 (subst (Tabled A C old new r place count parts.rest)
        (codes_once sound parts.content c.0 d.0 c.1 d.1) c.2) d.2)

    agree_count : (place : ℕ) (bytes : List ℕ) → ReadsCount A C old new r place bytes → ReadsCount A C old other q place bytes → Agree
    agree_count place bytes = agree_on _ _ (field_read 3 (eqb 4) place bytes)
        (λ parts. agree_if _ _ (ltb most_letters (four_number parts.content)) _ (agree_rows (four_number parts.content) (place + 7) parts.rest))

    agree_scale : (place : ℕ) (bytes : List ℕ) → ReadsScale A C old new r place bytes → ReadsScale A C old other q place bytes → Agree
    agree_scale place bytes = agree_on _ _ (field_read 2 (eqb 1) place bytes)
        (λ parts. agree_if _ _ (not (eqb (get_or parts.content 0 0) C.number)) _ (agree_count (place + 4) parts.rest))

    agree_text : (bytes : List ℕ) → ReadsText A C old new r bytes → ReadsText A C old other q bytes → Agree
    agree_text bytes = agree_on _ _ (field_read 1 text_fits 0 bytes)
        (λ parts. agree_if _ _ (not (bytes_eq parts.content (spelled old.rule))) _ (agree_scale (3 + length parts.content) parts.rest))

    one_answer : (bytes : List ℕ) → CardRead A C old new r bytes → CardRead A C old other q bytes → Agree
    one_answer bytes = agree_if _ _ (short summary old) _ (agree_text bytes)

  -- an accepted card
  module _ (old new : State S) where
    past_on : {X : Type 0} (P : X → Type 0) (f : Result X CardFault) → On f P (Refuses A C old new (Ok tt)) → (x : X) × (f ≡ Ok x) × P x
    past_on P (Ok x) c = (x, refl, c)
    past_on P (Err fault) c = refused_not c.0

    past_if : (P : Type 0) (b : Bool) (fault : CardFault) → If b (Refuses A C old new (Ok tt) fault) P → (b ≡ false) × P
    past_if P true fault c = refused_not c.0
    past_if P false fault c = (refl, c)

    -- the rows that bytes from the fourth field on hold
    record RowsRead (count : ℕ) (bytes : List ℕ) : Type 0 where
      values : List S
      whole : bytes ≡ field 4 (codes_of C values)
      long : length values ≡ table_size summary old.rule
      lawful : LawfulTable A old.rule count values
      new_is : new ≡ record { rule = old.rule; count = count; buffer = values ++ drop (length values) old.buffer }

    past_tabled : (place count : ℕ) (content rest : List ℕ) (found : Result (List S) ℕ) → Codes C content found
        → eqb (table_size summary old.rule * C.width) (length content) ≡ true
        → Tabled A C old new (Ok tt) place count rest found → RowsRead count (field 4 content ++ rest)
    past_tabled place count content rest (Err bad) codes fit c = refused_not c.0
    past_tabled place count content rest (Ok values) codes fit (inl (bad, c)) = refused_not c.0
    past_tabled place count content rest (Ok values) codes fit (inr (good, c)) =
        let (none, fills) = past_if _ (ltb 0 (length rest)) _ c in
        let ended : rest ≡ [] = nil_from_length rest (omega (arith, ltb-false _ _ none)) in
        record {
          values = values;
          whole = ap₂ (λ xs ys. field 4 xs ++ ys) codes ended ∙ append-nil (field 4 (codes_of C values));
          long = as_many sound values (table_size summary old.rule) (ap length (sym codes) ∙ sym (eqb-true _ _ fit));
          lawful = good;
          new_is = fills.1;
        }

    past_rows : (count place : ℕ) (bytes : List ℕ) → AllBytes bytes → ReadsRows A C old new (Ok tt) count place bytes → RowsRead count bytes
    past_rows count place bytes small c =
        let fits : ℕ → Bool = eqb (table_size summary old.rule * C.width) in
        let (parts, e, rows) = past_on _ (field_read 4 fits place bytes) c in
        let (found, codes, d) = rows in
        let facts = field_back 4 fits place bytes parts small e in
        subst (RowsRead count) (sym facts.whole) (past_tabled place count parts.content parts.rest found codes facts.fit d)

    -- and the count, from the third on
    abbrev CountRead : List ℕ → Type 0
    CountRead bytes = (count : ℕ) × (rest : List ℕ) × (count ≤ most_letters) × (bytes ≡ field 3 (four_bytes count) ++ rest) × RowsRead count rest

    past_count : (place : ℕ) (bytes : List ℕ) → AllBytes bytes → ReadsCount A C old new (Ok tt) place bytes → CountRead bytes
    past_count place bytes small c =
        let (parts, e, d) = past_on _ (field_read 3 (eqb 4) place bytes) c in
        let facts = field_back 3 (eqb 4) place bytes parts small e in
        let (within, rows) = past_if _ (ltb most_letters (four_number parts.content)) _ d in (
          four_number parts.content,
          parts.rest,
          ltb-false _ _ within,
          facts.whole ∙ ap (λ xs. field 3 xs ++ parts.rest) (sym (four_back parts.content facts.small (sym (eqb-true _ _ facts.fit)))),
          past_rows (four_number parts.content) (place + 7) parts.rest facts.small_rest rows,
        )

    past_scale : (place : ℕ) (bytes : List ℕ) → AllBytes bytes → ReadsScale A C old new (Ok tt) place bytes
        → (rest : List ℕ) × (bytes ≡ field 2 (C.number ∷ []) ++ rest) × CountRead rest
    past_scale place bytes small c =
        let (parts, e, d) = past_on _ (field_read 2 (eqb 1) place bytes) c in
        let facts = field_back 2 (eqb 1) place bytes parts small e in
        let (number, more) = past_if _ (not (eqb (get_or parts.content 0 0) C.number)) _ d in (
          parts.rest,
          facts.whole ∙ ap (λ xs. field 2 xs ++ parts.rest)
              (one_byte parts.content C.number (sym (eqb-true _ _ facts.fit)) (eqb-true _ _ (not-false _ number))),
          past_count (place + 4) parts.rest facts.small_rest more,
        )

    past_text : (bytes : List ℕ) → AllBytes bytes → ReadsText A C old new (Ok tt) bytes
        → (rest : List ℕ) × (bytes ≡ field 1 (spelled old.rule) ++ (field 2 (C.number ∷ []) ++ rest)) × CountRead rest
    past_text bytes small c =
        let (parts, e, d) = past_on _ (field_read 1 text_fits 0 bytes) c in
        let facts = field_back 1 text_fits 0 bytes parts small e in
        let (same, more) = past_if _ (not (bytes_eq parts.content (spelled old.rule))) _ d in
        let (rest, f, read) = past_scale (3 + length parts.content) parts.rest facts.small_rest more in
        (rest, facts.whole ∙ ap₂ (λ xs ys. field 1 xs ++ ys) ((bytes_eq-Decides parts.content (spelled old.rule)).0 (not-false _ same)) f, read)

  abbrev CardTaken : State S → State S → List ℕ → Type 0
  CardTaken old new bytes = Cardable A new × (card_of C new ≡ bytes) × (new.rule ≡ old.rule)
      × (drop (table_size summary old.rule) new.buffer ≡ drop (table_size summary old.rule) old.buffer)

  accepted : (old new : State S) (bytes : List ℕ) → AllBytes bytes → length (spelled old.rule) ≤ 96 → cells_of_rule old.rule ≤ 8
      → CardRead A C old new (Ok tt) bytes → CardTaken old new bytes
  accepted old new bytes small text few c =
      let (rest, e, counted) = past_text old new bytes small (past_if old new _ (short summary old) _ c).1 in
      let (count, last, within, f, read) = counted in
      let values : List S = read.values in
      let beyond : List S = drop (length values) old.buffer in
      let size : ℕ = table_size summary old.rule in
      let front : take size (values ++ beyond) ≡ values = take_at values beyond size read.long in
      subst (λ t. CardTaken old t bytes) (sym read.new_is) (
        record {
          long = omega (arith, length-append values beyond, read.long);
          within = within;
          lawful = subst (LawfulTable A old.rule count) (sym front) read.lawful;
          text = text;
          few = few;
        },
        sym (e ∙ ap (λ xs. field 1 (spelled old.rule) ++ (field 2 (C.number ∷ []) ++ xs))
            (f ∙ ap (λ xs. field 3 (four_bytes count) ++ xs) (read.whole ∙ ap (λ xs. field 4 (codes_of C xs)) (sym front)))),
        refl,
        drop_at values beyond size read.long ∙ ap (λ n. drop n old.buffer) read.long,
      )

pub card_laws : {S : Type 0} {A : Algebra S} {C : Coding S} → Lawful A → Sound C → CardLaws A C
card_laws {A = A} L sound = record {
  back = back A sound;
  equal_cards = equal_cards A sound;
  accepted = accepted A sound;
  one_answer = λ old new other r q. one_answer A sound old new other r q;
  built_lawful = built_lawful L;
}
