-- The codes of values one after the other: their length, and that they are read in one way only. Assumes nothing.
use Rattle.std.proofs.Common.{◌≡◌, ℕ, zero, suc, ◌+◌, ◌*◌, ◌<◌, ◌≤◌, List, [], ◌∷◌, ◌++◌, length, take, drop, Ok, Err, Result, sym, refl, ap, ◌∙◌, ap₂, ⊎_elim, mul-le-mul_right, arith}
use Rattle.format.specs.Bytes.{codes_of}
use Rattle.format.specs.Reading.{Codes}
use Rattle.scale.specs.Codes.{Coding, Sound}
use Rattle.std.proofs.lemmas.List.{append-nil, append_assoc, length-append, take_at, drop_at, drop-drop, take-append-drop}
use Rattle.std.proofs.lemmas.Bool.{cases_lt, cases_order}

-- equal lists with fronts of one length
same_fronts : (a b c d : List ℕ) (n : ℕ) → length a ≡ n → length b ≡ n → a ++ c ≡ b ++ d → (a ≡ b) × (c ≡ d)
same_fronts a b c d n h l e = (sym (take_at a c n h) ∙ (ap (take n) e ∙ take_at b d n l), sym (drop_at a c n h) ∙ (ap (drop n) e ∙ drop_at b d n l))

fewer : (k n w : ℕ) → k * w < n * w → k < n
fewer k n w h = ⊎_elim (λ l. l) (λ l. absurd (omega (arith, mul-le-mul_right w l))) (cases_lt k n)

module _ {S : Type 0} {C : Coding S} (sound : Sound C) where
  pub codes_length : (values : List S) → length (codes_of C values) ≡ length values * C.width
  codes_length [] = omega arith
  codes_length (x ∷ values) =
      let next : suc (length values) * C.width ≡ length values * C.width + C.width = omega arith in
      omega (arith, length-append (C.code x) (codes_of C values), sound.same_width x, codes_length values, next)

  pub codes_same : (values others : List S) → codes_of C values ≡ codes_of C others → values ≡ others
  codes_same [] [] e = refl
  codes_same [] (y ∷ others) e = absurd (omega (arith, ap length e, length-append (C.code y) (codes_of C others), sound.same_width y, sound.some_width))
  codes_same (x ∷ values) [] e = absurd (omega (arith, ap length e, length-append (C.code x) (codes_of C values), sound.same_width x, sound.some_width))
  codes_same (x ∷ values) (y ∷ others) e =
      let p = same_fronts (C.code x) (C.code y) (codes_of C values) (codes_of C others) C.width (sound.same_width x) (sound.same_width y) e in
      ap₂ (λ z zs. z ∷ zs) (sound.faithful x y p.0) (codes_same values others p.1)

  -- as many values as bytes hold codes
  pub as_many : (values : List S) (n : ℕ) → length (codes_of C values) ≡ n * C.width → length values ≡ n
  as_many values n e = ⊎_elim (λ h. h)
      (⊎_elim (λ h. absurd (omega (arith, codes_length values, below (length values) n h)))
      (λ h. absurd (omega (arith, codes_length values, below n (length values) h))))
      (cases_order (length values) n)
    where
      below : (i j : ℕ) → i < j → i * C.width + C.width ≤ j * C.width
      below i j h =
          let next : suc i * C.width ≡ i * C.width + C.width = omega arith in
          omega (arith, mul-le-mul_right C.width h, next)

  -- at each place of codes there is one
  code_at : (values : List S) (rest : List ℕ) (k : ℕ) → k < length values
      → (x : S) × (take C.width (drop (k * C.width) (codes_of C values ++ rest)) ≡ C.code x)
  code_at [] rest k h = absurd (omega arith)
  code_at (x ∷ values) rest zero h =
      let none : 0 * C.width ≡ 0 = omega arith in (
        x,
        ap (λ i. take C.width (drop i (codes_of C (x ∷ values) ++ rest))) none
            ∙ (ap (take C.width) (append_assoc (C.code x) (codes_of C values) rest) ∙ take_at (C.code x) (codes_of C values ++ rest) C.width (sound.same_width x)),
      )
  code_at (x ∷ values) rest (suc k) h =
      let next : suc k * C.width ≡ C.width + k * C.width = omega arith in
      let whole : List ℕ = codes_of C (x ∷ values) ++ rest in
      let after : drop C.width whole ≡ codes_of C values ++ rest =
      ap (drop C.width) (append_assoc (C.code x) (codes_of C values) rest) ∙ drop_at (C.code x) (codes_of C values ++ rest) C.width (sound.same_width x) in
      let (y, e) = code_at values rest k (omega arith) in
      (y, ap (take C.width) (ap (λ i. drop i whole) next ∙ (sym (drop-drop (k * C.width) C.width whole) ∙ ap (drop (k * C.width)) after)) ∙ e)

  -- so no place among them is none
  no_gap : (bytes rest : List ℕ) (values : List S) (k place : ℕ) → bytes ≡ codes_of C values ++ rest → place ≡ k * C.width → k < length values
      → ((x : S) → take C.width (drop place bytes) ≡ C.code x → ⊥) → ⊥
  no_gap bytes rest values k place e p h none =
      let (x, found) = code_at values rest k h in
      none x (ap₂ (λ i xs. take C.width (drop i xs)) p e ∙ found)

  pub never_both : (bytes : List ℕ) (values : List S) (place : ℕ) → Codes C bytes (Ok values) → Codes C bytes (Err place) → ⊥
  never_both bytes values place e (front, p, inside, begins, none) =
      no_gap bytes [] values (length front) place (e ∙ sym (append-nil (codes_of C values))) p
      (fewer (length front) (length values) C.width (omega (arith, inside, p, ap length e, codes_length values))) none

  earlier : (bytes : List ℕ) (values : List S) (place : ℕ) → take place bytes ≡ codes_of C values → bytes ≡ codes_of C values ++ drop place bytes
  earlier bytes values place e = sym (take-append-drop place bytes) ∙ ap (λ xs. xs ++ drop place bytes) e

  -- bytes are codes in one way only
  pub codes_once : (bytes : List ℕ) (a b : Result (List S) ℕ) → Codes C bytes a → Codes C bytes b → a ≡ b
  codes_once bytes (Ok values) (Ok others) e f = ap Ok (codes_same values others (sym e ∙ f))
  codes_once bytes (Ok values) (Err place) e f = absurd (never_both bytes values place e f)
  codes_once bytes (Err place) (Ok values) e f = absurd (never_both bytes values place f e)
  codes_once bytes (Err place) (Err other) (values, p, inside, begins, none) (others, q, also, starts, neither) = ap Err (⊎_elim
      (λ h. p ∙ (ap (λ n. n * C.width) h ∙ sym q))
      (⊎_elim (λ h. absurd (no_gap bytes _ others (length values) place (earlier bytes others other starts) p h none))
      (λ h. absurd (no_gap bytes _ values (length others) other (earlier bytes values place begins) q h neither)))
      (cases_order (length values) (length others)))
