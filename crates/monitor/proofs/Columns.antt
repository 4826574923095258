-- What one letter and the marks give for each cell, and rows written over a table. Assumes nothing.
use Rattle.std.proofs.Common.{◌≡◌, ℕ, zero, suc, ◌+◌, ◌-◌, ◌*◌, ◌^◌, ◌<◌, ◌≤◌, false, List, ◌++◌, map, length, get_or, take, drop, Some, None, Ok, Err, Option, Result, sym, refl, ap, ◌∙◌, ap₂, subst, ⊎_elim, arith}
use borrow.Rule.Slice.PartMut.{put_mid}
use denote.Param.Members.{Mut}
use Rattle.cells.proofs.Tables.{step_length}
use Rattle.cells.specs.Answers.{Done}
use Rattle.cells.specs.Reading.{on_letter, cells_of, cells_before}
use Rattle.cells.specs.RowAt.{listed, RowBy, Gives}
use Rattle.cells.specs.Rows.{at_corner, at, followed}
use Rattle.cells.specs.Step.{end_marks}
use Rattle.cells.specs.Tables.{corner_cells}
use Rattle.cells.specs.declared.step.StepFault.{StepFault}
use Rattle.cells.specs.declared.step.StepFault.TheVariants.{Short}
use Rattle.letter.specs.Heard.{Heard}
use Rattle.monitor.proofs.Fronts.{row_more, row_followed}
use Rattle.monitor.specs.Work.{letter_table, row_then}
use Rattle.rule.specs.Tree.{Rule}
use Rattle.runs.proofs.Engine.{at_same}
use Rattle.runs.proofs.Written.{length_listing, get_or_listing, length_rows}
use Rattle.runs.specs.Calls.{told}
use Rattle.runs.specs.States.{cells_of_rule, listing, rows, table_in}
use Rattle.scale.specs.Laws.{Algebra, Lawful}
use Rattle.semantics.specs.Inward.{inward}
use Rattle.semantics.specs.Marks.{mark_of}
use Rattle.std.proofs.lemmas.List.FromFn.{length-map-range_with_len, fill_by_all}
use Rattle.std.proofs.lemmas.List.Edits.{get_or-between}
use Rattle.std.proofs.lemmas.List.{get_or-take, get_or-drop, get_or_read, get_or_append_left, get_or-append_right, ext_get_or}
use Rattle.std.specs.Array.{IsFromFnResultFrom, IsFromFnResult}
use Rattle.std.specs.Fn.{Called}
use Rattle.std.specs.List.{between, range_with_len}
use Rattle.std.specs.Option.{unwrap_or}

-- the row that a call gives at the values that its closure gives; a row of the right length there always is
pub row_given : {S : Type 0} (A : Algebra S) (row : List S) (n : ℕ) (post : ℕ → S → Type 0) (o : Option S) (d : S) (v : ℕ → S)
    → RowBy A row n post o → length row ≡ 2 ^ n → Gives post n v → unwrap_or o d ≡ at A n (listed A row) v
row_given A row n post (Some x) d v given whole gives = given.1 v gives
row_given A row n post None d v given whole gives = absurd (given whole)

-- an array whose values a closure gives: each call gives the value of its number, and leaves the closure as it was
module _ {F B : Type 0} (calls : Mut F (ℕ × Unit {0}) B) (f : F) (ys : List B) (v : ℕ → B) (d : B)
    (gives : (k : ℕ) (y : B) (q : F) → Called calls f (k, tt) y q → (q ≡ f) × (y ≡ v k)) where
  made_from : (i n : ℕ) → IsFromFnResultFrom calls f ys i n → (j : ℕ) → j < n → get_or ys (i + j) d ≡ v (i + j)
  made_from i zero made j h = absurd (omega arith)
  made_from i (suc n) (q, y, here, called, more) zero h =
      let first : i + 0 ≡ i = omega arith in rw first (here.1 d ∙ (gives i y q called).1)
  made_from i (suc n) (q, y, here, called, more) (suc j) h =
      let later : i + suc j ≡ i + 1 + j = omega arith in
      rw later (made_from (i + 1) n (subst (λ p. IsFromFnResultFrom calls p ys (i + 1) n) (gives i y q called).0 more) j (omega arith))

  pub all_made : (n : ℕ) → IsFromFnResult calls f ys n → ys ≡ map v (range_with_len 0 n)
  all_made n made = fill_by_all v ys n d made.long
      (λ k h. let here : 0 + k ≡ k = omega arith in subst (λ m. get_or ys m d ≡ v m) here (made_from 0 n made.each k h))

module _ {S : Type 0} where
  -- a value read from a column at the front of a list
  pub front_read : (f : ℕ → S) (n : ℕ) (values old : List S) (k : ℕ) (x : S) → k < n → values ≡ listing n f ++ drop n old → x ≡ get_or values k x → x ≡ f k
  front_read f n values old k x h e read = read
      ∙ (ap (λ ys. get_or ys k x) e ∙ (get_or_append_left (listing n f) (drop n old) x k (omega (arith, length_listing n f)) ∙ get_or_listing n f k x h))

  listing_get_or : (xs : List S) (n : ℕ) (d : S) → length xs ≡ n → listing n (λ j. get_or xs j d) ≡ xs
  listing_get_or xs n d e = ext_get_or d (listing n (λ j. get_or xs j d)) xs (length_listing n _ ∙ sym e)
      (λ i h. get_or_listing n _ i d (omega (arith, length_listing n (λ j. get_or xs j d))))

module _ {S : Type 0} (A : Algebra S) where
  -- a step from a corner's cells writes a column of the letter's table
  pub stepped_column : (l : Heard S) (r : Rule) (values old new : List S) (n corner : ℕ) (answer : Result (Unit {0}) StepFault)
      → Done A l r (take n values) old new answer → n ≡ cells_of_rule r → n ≤ length old → take n values ≡ corner_cells A n corner
      → new ≡ listing n (λ j. letter_table A r l j corner) ++ drop n old
  stepped_column l r values old new n corner answer done count room e = from answer done
    where
      long : length (take n values) ≡ n
      long = ap length e ∙ length-map-range_with_len (at_corner A corner) 0 n

      cells : List S
      cells = cells_before A l (corner_cells A (cells_of_rule r) corner) r

      size : length cells ≡ n
      size = step_length A (on_letter A l) (cells_of A (corner_cells A (cells_of_rule r) corner)) (inward false r) ∙ sym count

      from : (o : Result (Unit {0}) StepFault) → Done A l r (take n values) old new o → new ≡ listing n (λ j. letter_table A r l j corner) ++ drop n old
      from (Ok u) p = p.2 ∙ ap₂ ◌++◌ (ap (λ vs. cells_before A l vs r) (e ∙ ap (λ m. corner_cells A m corner) count)
          ∙ sym (listing_get_or cells n A.worst size)) (ap (λ m. drop m old) (sym count))
      from (Err Short) p = absurd (⊎_elim (λ h. omega (arith, long)) (λ h. omega arith) p.0)

module _ {S : Type 0} {A : Algebra S} (L : Lawful A) where
  -- a row behind those already written over a buffer
  row_behind : (n k size : ℕ) (t : ℕ → ℕ → S) (old now : List S) (c : ℕ) → size ≡ 2 ^ n → c < 2 ^ n → now ≡ rows n k t ++ drop (k * 2 ^ n) old
      → get_or (between (k * size) ((k + 1) * size) now) c A.worst ≡ table_in A n old k c
  row_behind n k size t old now c whole l e =
      let place : k * 2 ^ n + c - k * 2 ^ n ≡ c = omega arith in
      get_or-between now (k * size) ((k + 1) * size) c A.worst (omega arith)
      ∙ (ap₂ (λ m xs. get_or xs (k * m + c) A.worst) whole e ∙ (get_or-append_right (rows n k t) (drop (k * 2 ^ n) old) (k * 2 ^ n) (k * 2 ^ n + c) A.worst (length_rows n k t) (omega arith)
      ∙ (ap (λ i. get_or (drop (k * 2 ^ n) old) i A.worst) place ∙ get_or-drop (k * 2 ^ n) old c A.worst)))

  -- a row more of a table, after which another comes, is written over itself
  pub row_read : (n k size : ℕ) (old now part : List S) (t : ℕ → ℕ → S) → size ≡ 2 ^ n
      → now ≡ rows n k (followed A n (table_in A n old) t) ++ drop (k * 2 ^ n) old → part ≡ row_then A n (between (k * size) ((k + 1) * size) now) t
      → put_mid (k * size) ((k + 1) * size - k * size) now part ≡ rows n (k + 1) (followed A n (table_in A n old) t) ++ drop ((k + 1) * 2 ^ n) old
  row_read n k size old now part t whole e is =
      row_more n k size (followed A n (table_in A n old) t) old now part whole e
      (is ∙ row_followed L n k (between (k * size) ((k + 1) * size) now) old t (λ c l. row_behind n k size (followed A n (table_in A n old) t) old now c whole l e))

  -- row 0 at the marks, its first entry and its last
  pub told_is : (r : Rule) (table : List S) (n size : ℕ) (x y z : S) → n ≡ cells_of_rule r → size ≡ 2 ^ n → size ≤ length table → 0 < size
      → x ≡ at A n (listed A (take size table)) (listed A (end_marks A.pending (mark_of A) (inward false r)))
      → y ≡ get_or table 0 y → z ≡ get_or table (size - 1) z
      → ◌≡◌ {A = S × S × S} (x, y, z) (told A (record { rule = r; count = 0; buffer = table }))
  told_is r table n size x y z c s l p e first last =
      three verdict (get_or_read table 0 y (omega arith) first A.worst ∙ in_first 0)
      (get_or_read table (size - 1) z (omega arith) last A.worst ∙ (ap (λ i. get_or table (i - 1) A.worst) size_is ∙ in_first (2 ^ m - 1)))
    where
      m : ℕ
      m = cells_of_rule r

      three : {u w p q f g : S} → u ≡ p → w ≡ q → f ≡ g → ◌≡◌ {A = S × S × S} (u, w, f) (p, q, g)
      three i j k = rw (i, j, k) refl

      v : ℕ → S
      v = listed A (end_marks A.pending (mark_of A) (inward false r))

      size_is : size ≡ 2 ^ m
      size_is = s ∙ ap (λ i. 2 ^ i) c

      in_first : (d : ℕ) → get_or table d A.worst ≡ table_in A m table 0 d
      in_first d = let here : d ≡ 0 * 2 ^ m + d = omega arith in ap (λ i. get_or table i A.worst) here

      verdict : x ≡ at A m (table_in A m table 0) v
      verdict = e ∙ (ap (λ i. at A i (listed A (take size table)) v) c
          ∙ at_same L m _ _ _ _ (λ d h. get_or-take size table d A.worst (omega (arith, size_is)) ∙ in_first d) (λ j h. refl))
