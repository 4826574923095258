-- Fields of a card and numbers in bytes: put together, and read. Assumes nothing.
use Rattle.std.proofs.Common.{◌≡◌, ℕ, ◌+◌, ◌*◌, ◌/◌, ◌%◌, ◌<◌, ◌≤◌, Bool, true, false, cond, not, ◌||◌, eqb, ltb, List, [], ◌∷◌, ◌++◌, length, get_or, take, drop, Ok, Err, Result, sym, refl, ap, ◌∙◌, subst, ap₂, arith}
use native.Mathlib.Nat.{div-div-eq-div-mul}
use Rattle.fault.specs.declared.CardFault.{CardFault}
use Rattle.format.specs.Bytes.{two_bytes, four_bytes, field}
use Rattle.format.specs.Reading.{Parts, named_length, field_read, four_number}
use Rattle.runs.specs.Promises.{Each}
use Rattle.std.proofs.lemmas.List.{length-append, length-take-le, take_at, drop_at, drop-drop, take-append-drop}
use Rattle.std.proofs.lemmas.Bool.{ltb-false, le-ltb, eqb-true, eq-eqb, not-false, not_from_true, or_parts, or_from, cond-false}

abbrev Fine : {X : Type 0} → Result X CardFault → Type 0
Fine (Ok x) = Unit {0}
Fine (Err fault) = ⊥

pub refused_not : {X Y : Type 0} {x : X} {fault : CardFault} → Ok x ≡ Err fault → Y
refused_not e = absurd (subst Fine e tt)

abbrev value_or : {X : Type 0} → X → Result X CardFault → X
value_or x (Ok y) = y
value_or x (Err fault) = x

pub same_value : {X : Type 0} (r : Result X CardFault) (x y : X) → r ≡ Ok x → r ≡ Ok y → x ≡ y
same_value r x y e f = ap (value_or x) (sym e ∙ f)

-- a check that an accepted answer came past
past : {X : Type 0} (fails : Bool) (fault : CardFault) (rest : Result X CardFault) (x : X) → cond fails (Err fault) rest ≡ Ok x
    → (fails ≡ false) × (rest ≡ Ok x)
past true fault rest x e = refused_not (sym e)
past false fault rest x e = (refl, e)

-- bytes are numbers below 256
abbrev pub AllBytes : List ℕ → Type 0
AllBytes bytes = Each (λ b. b < 256) bytes

small_parts : (xs ys : List ℕ) → AllBytes (xs ++ ys) → AllBytes xs × AllBytes ys
small_parts [] ys h = (tt, h)
small_parts (x ∷ xs) ys h = let (left, right) = small_parts xs ys h.1 in ((h.0, left), right)

-- two bytes, and four
two_number : (n : ℕ) → n < 65536 → n / 256 % 256 * 256 + n % 256 ≡ n
two_number n h = omega arith

two_back : (a b : ℕ) → a < 256 → b < 256 → two_bytes (a * 256 + b) ≡ a ∷ b ∷ []
two_back a b h l = ap₂ (λ x y. x ∷ y ∷ []) (omega arith) (omega arith)

quarters : (n : ℕ) → (n / 65536 ≡ n / 256 / 256) × (n / 16777216 ≡ n / 256 / 256 / 256)
quarters n = (sym (div-div-eq-div-mul n 256 256), sym (ap (λ m. m / 256) (div-div-eq-div-mul n 256 256) ∙ div-div-eq-div-mul n 65536 256))

pub four_forth : (n : ℕ) → n < 4294967296 → four_number (four_bytes n) ≡ n
four_forth n h =
    let p = quarters n in
    ap₂ (λ x y. x % 256 * 16777216 + y % 256 * 65536 + n / 256 % 256 * 256 + n % 256) p.1 p.0 ∙ omega arith

four_quarters : (a b c d n : ℕ) → b < 256 → c < 256 → d < 256 → n ≡ a * 16777216 + b * 65536 + c * 256 + d
    → (n / 256 ≡ a * 65536 + b * 256 + c) × (n / 256 / 256 ≡ a * 256 + b) × (n / 256 / 256 / 256 ≡ a)
four_quarters a b c d n h l m e =
    let third : n / 256 ≡ a * 65536 + b * 256 + c = omega arith in
    let second : n / 256 / 256 ≡ a * 256 + b = omega arith in
    let first : n / 256 / 256 / 256 ≡ a = omega arith in
    (third, second, first)

four_digits : (a b c d n : ℕ) → a < 256 → b < 256 → c < 256 → d < 256 → n ≡ a * 16777216 + b * 65536 + c * 256 + d
    → (n / 16777216 % 256 ≡ a) × (n / 65536 % 256 ≡ b) × (n / 256 % 256 ≡ c) × (n % 256 ≡ d)
four_digits a b c d n k h l m e =
    let p = quarters n in
    let q = four_quarters a b c d n h l m e in
    (omega (arith, p.1, q.2), omega (arith, p.0, q.1), omega (arith, q.0), omega arith)

pub four_back : (bytes : List ℕ) → AllBytes bytes → length bytes ≡ 4 → four_bytes (four_number bytes) ≡ bytes
four_back [] h l = absurd (omega arith)
four_back (a ∷ []) h l = absurd (omega arith)
four_back (a ∷ b ∷ []) h l = absurd (omega arith)
four_back (a ∷ b ∷ c ∷ []) h l = absurd (omega arith)
four_back (a ∷ b ∷ c ∷ d ∷ []) h l =
    let p = four_digits a b c d (four_number (a ∷ b ∷ c ∷ d ∷ [])) h.0 h.1.0 h.1.1.0 h.1.1.1.0 refl in
    ap₂ (λ (x : ℕ × ℕ) (y : ℕ × ℕ). x.0 ∷ x.1 ∷ y.0 ∷ y.1 ∷ []) (ap₂ (λ x y. (x, y)) p.0 p.1) (ap₂ (λ x y. (x, y)) p.2 p.3)
four_back (a ∷ b ∷ c ∷ d ∷ e ∷ bytes) h l = absurd (omega arith)

pub one_byte : (bytes : List ℕ) (n : ℕ) → length bytes ≡ 1 → get_or bytes 0 0 ≡ n → bytes ≡ n ∷ []
one_byte [] n l e = absurd (omega arith)
one_byte (a ∷ []) n l e = ap (λ x. x ∷ []) e
one_byte (a ∷ b ∷ bytes) n l e = absurd (omega arith)

-- a field whose head is there, whose length fits and whose bytes are there
field_there : (tag : ℕ) (fits : ℕ → Bool) (place : ℕ) (bytes : List ℕ) → 3 ≤ length bytes → get_or bytes 0 0 ≡ tag
    → fits (named_length bytes) ≡ true → 3 + named_length bytes ≤ length bytes
    → field_read tag fits place bytes ≡ Ok (record { content = take (named_length bytes) (drop 3 bytes); rest = drop (3 + named_length bytes) bytes })
field_there tag fits place bytes long tagged fit there =
    cond-false _ _ _ (or_from _ _ (le-ltb _ _ long) (not_from_true _ (eq-eqb _ _ tagged)))
    ∙ (cond-false _ _ _ (not_from_true _ fit) ∙ cond-false _ _ _ (le-ltb _ _ there))

-- a field put together is read again
pub field_forth : (tag : ℕ) (fits : ℕ → Bool) (place : ℕ) (content rest : List ℕ) → fits (length content) ≡ true → length content < 65536
    → field_read tag fits place (field tag content ++ rest) ≡ Ok (record { content = content; rest = rest })
field_forth tag fits place content rest fit small =
    let whole : List ℕ = field tag content ++ rest in
    let named : named_length whole ≡ length content = two_number (length content) small in
    let long : length whole ≡ 3 + length content + length rest = omega (arith, length-append content rest) in
    field_there tag fits place whole (omega (arith, long)) refl (ap fits named ∙ fit) (omega (arith, long, named))
    ∙ ap₂ (λ x y. Ok (record { content = x; rest = y })) (take_at content rest (named_length whole) (sym named))
    (sym (drop-drop (named_length whole) 3 whole) ∙ drop_at content rest (named_length whole) (sym named))

-- two fields with one tag are equal in content and in what comes after
pub same_field : (tag : ℕ) (a b c d : List ℕ) → length a < 65536 → length b < 65536 → field tag a ++ c ≡ field tag b ++ d → (a ≡ b) × (c ≡ d)
same_field tag a b c d h l e =
    let p = same_value (field_read tag (λ n. true) 0 (field tag a ++ c)) _ _ (field_forth tag (λ n. true) 0 a c refl h)
    (ap (field_read tag (λ n. true) 0) e ∙ field_forth tag (λ n. true) 0 b d refl l) in
    (ap (λ (parts : Parts). parts.content) p, ap (λ (parts : Parts). parts.rest) p)

-- what is read as a field is one
pub record FieldFacts (tag : ℕ) (fits : ℕ → Bool) (bytes : List ℕ) (parts : Parts) : Type 0 where
  pub fit : fits (length parts.content) ≡ true
  pub whole : bytes ≡ field tag parts.content ++ parts.rest
  pub small : AllBytes parts.content
  pub small_rest : AllBytes parts.rest

field_taken : (tag : ℕ) (fits : ℕ → Bool) (bytes : List ℕ) → AllBytes bytes → 3 ≤ length bytes → get_or bytes 0 0 ≡ tag
    → fits (named_length bytes) ≡ true → 3 + named_length bytes ≤ length bytes
    → FieldFacts tag fits bytes (record { content = take (named_length bytes) (drop 3 bytes); rest = drop (3 + named_length bytes) bytes })
field_taken tag fits [] small long tagged fit there = absurd (omega arith)
field_taken tag fits (a ∷ []) small long tagged fit there = absurd (omega arith)
field_taken tag fits (a ∷ b ∷ []) small long tagged fit there = absurd (omega arith)
field_taken tag fits (a ∷ b ∷ c ∷ more) small long tagged fit there =
    let n : ℕ = b * 256 + c in
    let whole : List ℕ = a ∷ b ∷ c ∷ more in
    let split : take n more ++ drop (3 + n) whole ≡ more = ap (λ xs. take n more ++ xs) (sym (drop-drop n 3 whole)) ∙ take-append-drop n more in
    let named : length (take n more) ≡ n = length-take-le n more (omega arith) in
    let both : AllBytes (take n more) × AllBytes (drop (3 + n) whole) = small_parts _ _ (subst AllBytes (sym split) small.1.1.1) in
    record {
      fit = ap fits named ∙ fit;
      whole = ap₂ (λ (x : ℕ) xs. x ∷ xs) tagged
          (ap₂ (λ (xs : List ℕ) ys. xs ++ ys) (sym (two_back b c small.1.0 small.1.1.0) ∙ ap two_bytes (sym named)) (sym split));
      small = both.0;
      small_rest = both.1;
    }

pub field_back : (tag : ℕ) (fits : ℕ → Bool) (place : ℕ) (bytes : List ℕ) (parts : Parts) → AllBytes bytes
    → field_read tag fits place bytes ≡ Ok parts → FieldFacts tag fits bytes parts
field_back tag fits place bytes parts small e =
    let p = past (ltb (length bytes) 3 || not (eqb (get_or bytes 0 0) tag)) _ _ parts e in
    let q = past (not (fits (named_length bytes))) _ _ parts p.1 in
    let r = past (ltb (length bytes) (3 + named_length bytes)) _ _ parts q.1 in
    let head = or_parts _ _ p.0 in
    subst (FieldFacts tag fits bytes) (same_value _ _ _ refl r.1)
    (field_taken tag fits bytes small (ltb-false _ _ head.0) (eqb-true _ _ (not-false _ head.1)) (not-false _ q.0) (ltb-false _ _ r.0))
