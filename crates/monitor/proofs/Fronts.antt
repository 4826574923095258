-- What is written over the front of a list, place by place and row by row. Assumes nothing.
use Rattle.std.proofs.Common.{◌≡◌, ℕ, ◌+◌, ◌-◌, ◌*◌, ◌^◌, ◌<◌, ◌≤◌, List, [], ◌∷◌, ◌++◌, length, get_or, drop, set, replicate, sym, refl, ap, ◌∙◌, ap₂, mul-le-mul_right, add-one, arith}
use borrow.Rule.Slice.PartMut.{put_mid}
use Rattle.cells.specs.Rows.{followed}
use Rattle.monitor.specs.Work.{row_then}
use Rattle.runs.specs.Calls.{cleared}
use Rattle.runs.specs.States.{listing, rows, table_in}
use Rattle.runs.proofs.Engine.{at_same}
use Rattle.runs.proofs.Written.{length_rows, rows_row, listing_set, listing_cong}
use Rattle.scale.specs.Laws.{Algebra, Lawful}
use Rattle.std.proofs.lemmas.List.Edits.{length-between, get_or-between}
use Rattle.std.proofs.lemmas.Slice.{drop-append-drop}
use Rattle.std.specs.List.{between, FoldsTo}
use Rattle.std.proofs.lemmas.List.{take_at, drop-drop, drop_at, append_assoc}

module _ {X : Type 0} where
  -- what calls return that return one value alone
  pub all_same : {F : Type 0} (step : F → X → F → Type 0) (f : F) (xs : List X) (last : F) (v : X) → FoldsTo step f xs last
      → ((p : F) (x : X) (q : F) → step p x q → x ≡ v) → xs ≡ replicate (length xs) v
  all_same step f [] last v ran gives = refl
  all_same step f (x ∷ xs) last v (next, called, more) gives = ap₂ ◌∷◌ (gives f x next called) (all_same step next xs last v more gives)

  -- one place more of a listing is written over the front
  pub listing_more : (f : ℕ → X) (old now : List X) (k : ℕ) (x : X) → k < length old → now ≡ listing k f ++ drop k old → x ≡ f k
      → set now k x ≡ listing (k + 1) f ++ drop (k + 1) old
  listing_more f old now k x h e is = rw (add-one, e, is) (listing_set f old k h)

  -- no row is written yet
  pub row_none : (n : ℕ) (t : ℕ → ℕ → X) (old : List X) → old ≡ rows n 0 t ++ drop (0 * 2 ^ n) old
  unfolding rows
  row_none n t old = let none : 0 * 2 ^ n ≡ 0 = omega arith in ap (λ i. drop i old) (sym none)

  row_behind : (n k : ℕ) (t : ℕ → ℕ → X) (old : List X)
      → put_mid (k * 2 ^ n) (2 ^ n) (rows n k t ++ drop (k * 2 ^ n) old) (listing (2 ^ n) (t k)) ≡ rows n (k + 1) t ++ drop ((k + 1) * 2 ^ n) old
  row_behind n k t old =
      ap₂ (λ xs ys. xs ++ (row ++ ys)) (take_at front _ (k * 2 ^ n) (length_rows n k t)) rest
      ∙ (sym (append_assoc front row _) ∙ ap (λ xs. xs ++ drop ((k + 1) * 2 ^ n) old) (sym (ap (λ i. rows n i t) (add-one k) ∙ rows_row n k t)))
    where
      front : List X
      front = rows n k t

      row : List X
      row = listing (2 ^ n) (t k)

      next : k * 2 ^ n + 2 ^ n ≡ (k + 1) * 2 ^ n
      next = omega arith

      rest : drop (2 ^ n) (drop (k * 2 ^ n) (front ++ drop (k * 2 ^ n) old)) ≡ drop ((k + 1) * 2 ^ n) old
      rest = ap (λ ys. drop (2 ^ n) ys) (drop_at front _ (k * 2 ^ n) (length_rows n k t)) ∙ (drop-drop (2 ^ n) (k * 2 ^ n) old ∙ ap (λ i. drop i old) next)

  -- a row more is written behind the rows before it
  pub row_more : (n k size : ℕ) (t : ℕ → ℕ → X) (old now part : List X) → size ≡ 2 ^ n → now ≡ rows n k t ++ drop (k * 2 ^ n) old
      → part ≡ listing (2 ^ n) (t k) → put_mid (k * size) ((k + 1) * size - k * size) now part ≡ rows n (k + 1) t ++ drop ((k + 1) * 2 ^ n) old
  row_more n k size t old now part whole e is =
      let width : (k + 1) * size - k * size ≡ 2 ^ n = omega arith in
      ap₂ (λ a m. put_mid a m now part) (ap (λ m. k * m) whole) width ∙ (ap₂ (λ xs ys. put_mid (k * 2 ^ n) (2 ^ n) xs ys) e is ∙ row_behind n k t old)

  -- row k of some lies within the list
  pub row_within : (n k count size : ℕ) (old now : List X) → size ≡ 2 ^ n → k < count → count * 2 ^ n ≤ length old → length now ≡ length old
      → (k + 1) * size ≤ length now
  row_within n k count size old now whole h long same =
      let next : k + 1 ≤ count = omega arith in
      omega (arith, ap (λ m. (k + 1) * m) whole, mul-le-mul_right (2 ^ n) next)

  -- one row of many has the size of a row
  pub length_row : (k size : ℕ) (xs : List X) → (k + 1) * size ≤ length xs → length (between (k * size) ((k + 1) * size) xs) ≡ size
  length_row k size xs h = length-between xs (k * size) ((k + 1) * size) h ∙ omega arith

  -- a row more is written over the part of the list where it belongs
  pub row_over : (n k count size : ℕ) (t : ℕ → ℕ → X) (old now part : List X) → size ≡ 2 ^ n → k < count → count * 2 ^ n ≤ length old → length now ≡ length old
      → now ≡ rows n k t ++ drop (k * 2 ^ n) old → part ≡ listing (length (between (k * size) ((k + 1) * size) now)) (t k)
      → put_mid (k * size) ((k + 1) * size - k * size) now part ≡ rows n (k + 1) t ++ drop ((k + 1) * 2 ^ n) old
  row_over n k count size t old now part whole h long same e is = row_more n k size t old now part whole e
      (is ∙ ap (λ i. listing i (t k)) (length_row k size now (row_within n k count size old now whole h long same) ∙ whole))

module _ {S : Type 0} {A : Algebra S} (L : Lawful A) where
  -- a row of a table, after which another comes
  pub row_followed : (n k : ℕ) (row buffer : List S) (t : ℕ → ℕ → S) → ((c : ℕ) → c < 2 ^ n → get_or row c A.worst ≡ table_in A n buffer k c)
      → row_then A n row t ≡ listing (2 ^ n) (followed A n (table_in A n buffer) t k)
  row_followed n k row buffer t h = listing_cong (2 ^ n) _ _ (λ corner l. at_same L n _ _ _ _ h (λ j m. refl))

  -- row k of a buffer's table
  pub row_of : (n k size : ℕ) (buffer : List S) (c : ℕ) → size ≡ 2 ^ n → c < 2 ^ n
      → get_or (between (k * size) ((k + 1) * size) buffer) c A.worst ≡ table_in A n buffer k c
  row_of n k size buffer c whole l =
      get_or-between buffer (k * size) ((k + 1) * size) c A.worst (omega arith) ∙ ap (λ m. get_or buffer (k * m + c) A.worst) whole

  -- a row more of a table, after which another comes, is written over the part of a third where it belongs
  pub row_added : (n k size : ℕ) (first old now part : List S) (t : ℕ → ℕ → S) → size ≡ 2 ^ n
      → now ≡ rows n k (followed A n (table_in A n first) t) ++ drop (k * 2 ^ n) old → part ≡ row_then A n (between (k * size) ((k + 1) * size) first) t
      → put_mid (k * size) ((k + 1) * size - k * size) now part ≡ rows n (k + 1) (followed A n (table_in A n first) t) ++ drop ((k + 1) * 2 ^ n) old
  row_added n k size first old now part t whole e is = row_more n k size (followed A n (table_in A n first) t) old now part whole e
      (is ∙ row_followed n k (between (k * size) ((k + 1) * size) first) first t (λ c l. row_of n k size first c whole l))

  -- the spare is cleared whatever row stood at its front
  pub cleared_same : (m : ℕ) (row spare written : List S) → length row ≡ m → m ≤ 312 → written ≡ row ++ drop m spare → cleared A written ≡ cleared A spare
  cleared_same m row spare written same h e =
      ap (λ ys. replicate 312 A.worst ++ ys) (ap (λ ys. drop 312 ys) e ∙ drop-append-drop m spare row 312 h same)
