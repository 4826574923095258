-- What is written in a buffer: lists by a function of the place, the rows of a table, and what reading them gives. Assumes nothing.
use Rattle.std.proofs.Common.{◌≡◌, ℕ, zero, suc, ◌+◌, ◌-◌, ◌*◌, ◌^◌, ◌<◌, ◌≤◌, List, [], ◌∷◌, ◌++◌, length, get_or, take, drop, set, sym, refl, ap, ◌∙◌, ap₂, ⊎_elim, arith}
use Rattle.cells.proofs.Corners.{up_to}
use Rattle.rule.specs.Tree.{Rule}
use Rattle.runs.specs.States.{Form, cells_of_rule, rows_kept, table_size, table_in, listing, rows, tabled}
use Rattle.scale.specs.Laws.{Algebra}
use Rattle.std.proofs.lemmas.Nat.{mul-add-lt}
use Rattle.std.proofs.lemmas.List.{append-nil, append_assoc, length-append, length-drop, get_or_append_left, get_or-append_right, get_or_push, set_at, set-append_right, take_more, drop_more}

-- the place of a corner in a row lies within the rows
pub place_within : (n k c count : ℕ) → k < count → c < 2 ^ n → k * 2 ^ n + c < count * 2 ^ n
place_within n k c count h l = omega (arith, mul-add-lt k (2 ^ n) c count h l)

module _ {S : Type 0} where
  pub length_listing : (n : ℕ) (f : ℕ → S) → length (listing n f) ≡ n
  length_listing zero f = refl
  length_listing (suc n) f = omega (arith, length-append (listing n f) (f n ∷ []), length_listing n f)

  pub listing_cong : (n : ℕ) (f g : ℕ → S) → ((i : ℕ) → i < n → f i ≡ g i) → listing n f ≡ listing n g
  listing_cong zero f g h = refl
  listing_cong (suc n) f g h = ap₂ (λ xs x. xs ++ x ∷ []) (listing_cong n f g (λ i l. h i (omega arith))) (h n (omega arith))

  pub get_or_listing : (n : ℕ) (f : ℕ → S) (i : ℕ) (d : S) → i < n → get_or (listing n f) i d ≡ f i
  get_or_listing zero f i d h = absurd (omega arith)
  get_or_listing (suc n) f i d h = ⊎_elim
      (λ l. get_or_append_left (listing n f) (f n ∷ []) d i (omega (arith, length_listing n f)) ∙ get_or_listing n f i d l)
      (λ e. ap (λ j. get_or (listing n f ++ f n ∷ []) j d) e ∙ (get_or_push (listing n f) (f n) d n (length_listing n f) ∙ ap f (sym e)))
      (up_to n i h)

  -- one more place of a list is overwritten, with the list's rest from place p on
  set_listing : (f : ℕ → S) (xs : List S) (i p : ℕ) → p < length xs → set (listing i f ++ drop p xs) i (f i) ≡ listing (suc i) f ++ drop (suc p) xs
  set_listing f xs i p h =
      let next : p + 1 ≡ suc p = omega arith in
      ap (λ rest. set (listing i f ++ rest) i (f i)) (drop_more xs p (f i) h ∙ ap (λ j. get_or xs p (f i) ∷ drop j xs) next)
      ∙ (set_at (listing i f) _ (drop (suc p) xs) (f i) i (length_listing i f) ∙ sym (append_assoc (listing i f) (f i ∷ []) (drop (suc p) xs)))

  pub listing_set : (f : ℕ → S) (xs : List S) (i : ℕ) → i < length xs → set (listing i f ++ drop i xs) i (f i) ≡ listing (suc i) f ++ drop (suc i) xs
  listing_set f xs i h = set_listing f xs i i h

  -- the same behind a front
  pub listing_set_behind : (front : List S) (f : ℕ → S) (xs : List S) (i : ℕ) → length front + i < length xs
      → set (front ++ (listing i f ++ drop (length front + i) xs)) (length front + i) (f i) ≡ front ++ (listing (suc i) f ++ drop (suc (length front + i)) xs)
  listing_set_behind front f xs i h =
      let place : length front + i - length front ≡ i = omega arith in
      set-append_right front _ (length front) (length front + i) (f i) refl (omega arith)
      ∙ ap (λ ys. front ++ ys) (ap (λ j. set (listing i f ++ drop (length front + i) xs) j (f i)) place ∙ set_listing f xs i (length front + i) h)

  -- a longer front of a list
  take_listing : (xs : List S) (m j : ℕ) (d : S) → m + j ≤ length xs → take (m + j) xs ≡ take m xs ++ listing j (λ i. get_or xs (m + i) d)
  take_listing xs m zero d h = let here : m + 0 ≡ m = omega arith in ap (λ i. take i xs) here ∙ sym (append-nil (take m xs))
  take_listing xs m (suc j) d h =
      let next : m + suc j ≡ m + j + 1 = omega arith in
      ap (λ i. take i xs) next ∙ (take_more xs (m + j) d (omega arith)
      ∙ (ap (λ ys. ys ++ get_or xs (m + j) d ∷ []) (take_listing xs m j d (omega arith)) ∙ append_assoc (take m xs) _ _))

  pub rows_row : (n k : ℕ) (t : ℕ → ℕ → S) → rows n (suc k) t ≡ rows n k t ++ listing (2 ^ n) (t k)
  unfolding rows
  rows_row n k t = refl

  pub length_rows : (n k : ℕ) (t : ℕ → ℕ → S) → length (rows n k t) ≡ k * 2 ^ n
  unfolding rows
  length_rows n zero t = omega arith
  length_rows n (suc k) t =
      omega (arith, length-append (rows n k t) (listing (2 ^ n) (t k)), length_rows n k t, length_listing (2 ^ n) (t k))

  pub rows_cong : (n k : ℕ) (t u : ℕ → ℕ → S) → ((j c : ℕ) → j < k → c < 2 ^ n → t j c ≡ u j c) → rows n k t ≡ rows n k u
  unfolding rows
  rows_cong n zero t u h = refl
  rows_cong n (suc k) t u h = ap₂ ◌++◌ (rows_cong n k t u (λ j c l m. h j c (omega arith) m)) (listing_cong (2 ^ n) (t k) (u k) (λ c m. h k c (omega arith) m))

  pub get_d_rows : (n count : ℕ) (t : ℕ → ℕ → S) (k c : ℕ) (d : S) → k < count → c < 2 ^ n → get_or (rows n count t) (k * 2 ^ n + c) d ≡ t k c
  unfolding rows
  get_d_rows n zero t k c d h l = absurd (omega arith)
  get_d_rows n (suc count) t k c d h l = ⊎_elim
      (λ m. get_or_append_left (rows n count t) last d (k * 2 ^ n + c) (omega (arith, length_rows n count t, place_within n k c count m l))
      ∙ get_d_rows n count t k c d m l)
      (λ e. ap (λ j. get_or (rows n count t ++ last) (j * 2 ^ n + c) d) e
      ∙ (get_or-append_right (rows n count t) last (count * 2 ^ n) (count * 2 ^ n + c) d (length_rows n count t) (omega arith)
      ∙ (ap (λ i. get_or last i d) behind ∙ (get_or_listing (2 ^ n) (t count) c d l ∙ ap (λ j. t j c) (sym e)))))
      (up_to count k h)
    where
      last : List S
      last = listing (2 ^ n) (t count)

      behind : count * 2 ^ n + c - count * 2 ^ n ≡ c
      behind = omega arith

  module _ (A : Algebra S) where
    -- the front of a long enough buffer is the rows of its table
    pub take_rows : (n k : ℕ) (buffer : List S) → k * 2 ^ n ≤ length buffer → take (k * 2 ^ n) buffer ≡ rows n k (table_in A n buffer)
    unfolding rows
    take_rows n zero buffer h = let none : 0 * 2 ^ n ≡ 0 = omega arith in ap (λ i. take i buffer) none
    take_rows n (suc k) buffer h =
        let next : suc k * 2 ^ n ≡ k * 2 ^ n + 2 ^ n = omega arith in
        ap (λ i. take i buffer) next ∙ (take_listing buffer (k * 2 ^ n) (2 ^ n) A.worst (omega arith)
        ∙ ap (λ ys. ys ++ listing (2 ^ n) (table_in A n buffer k)) (take_rows n k buffer (omega arith)))

    -- a table written over a buffer, read again
    pub tabled_in : (form : Form) (r : Rule) (t : ℕ → ℕ → S) (buffer : List S) (k c : ℕ) → k < rows_kept form r → c < 2 ^ cells_of_rule r
        → table_in A (cells_of_rule r) (tabled form r t buffer) k c ≡ t k c
    tabled_in form r t buffer k c h l =
        let n : ℕ = cells_of_rule r in
        get_or_append_left (rows n (rows_kept form r) t) _ A.worst (k * 2 ^ n + c)
        (omega (arith, length_rows n (rows_kept form r) t, place_within n k c (rows_kept form r) h l))
        ∙ get_d_rows n (rows_kept form r) t k c A.worst h l

  -- a table written over a long enough buffer keeps its length
  pub length_tabled : (form : Form) (r : Rule) (t : ℕ → ℕ → S) (buffer : List S) → table_size form r ≤ length buffer
      → length (tabled form r t buffer) ≡ length buffer
  length_tabled form r t buffer h =
      let front : List S = rows (cells_of_rule r) (rows_kept form r) t in
      let rest : List S = drop (table_size form r) buffer in
      omega (arith, length-append front rest, length_rows (cells_of_rule r) (rows_kept form r) t, length-drop (table_size form r) buffer)
