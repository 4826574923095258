-- Rows and grids while they are filled, and one cell that is written. Assumes nothing.
use Rattle.std.proofs.Common.{◌≡◌, ℕ, ◌+◌, ◌*◌, ◌/◌, ◌%◌, ◌<◌, ◌≤◌, List, [], ◌∷◌, ◌++◌, length, get_or, vec_items, sym, ap, ◌∙◌, subst, ⊎_elim, suc-mul, arith}
use lib.Arith.{digits_lt, digits_div, digits_mod}
use Rattle.scale.specs.Laws.{Algebra}
use Rattle.evaluator.specs.declared.grid.Grid.{Grid}
use Rattle.evaluator.specs.Tables.{GivesPairs, Gridded}
use Rattle.std.proofs.lemmas.List.{length_push, get_or_push, get_or_append_left}
use Rattle.std.proofs.lemmas.Bool.{cases_eq}

-- the list has what calls returned at the first positions, so many as the count says
abbrev pub Filled : {S : Type 0} → Algebra S → (ℕ → S → Type 0) → ℕ → List S → Type 0
Filled A post count xs = (length xs ≡ count) × ((k : ℕ) → k < count → post k (get_or xs k A.worst))

module _ {S : Type 0} (A : Algebra S) (post : ℕ → S → Type 0) where
  pub filled_none : (count : ℕ) (xs : List S) → count ≡ 0 → xs ≡ [] → Filled A post count xs
  filled_none count xs z e = (ap length e ∙ sym z, λ k h. absurd (omega arith))

  pub filled_more : (count next : ℕ) (xs ys : List S) (x : S) → Filled A post count xs → next ≡ count + 1 → ys ≡ xs ++ x ∷ [] → post count x → Filled A post next ys
  filled_more count next xs ys x h n e p =
      (ap length e ∙ length_push xs x ∙ ap (λ n. n + 1) h.0 ∙ sym n, λ k l. ⊎_elim (here k) (before k l) (cases_eq k count))
    where
      here : (k : ℕ) → k ≡ count → post k (get_or ys k A.worst)
      here k same = subst (post k) (sym (ap (λ zs. get_or zs k A.worst) e ∙ get_or_push xs x A.worst k (h.0 ∙ sym same))) (subst (λ j. post j x) (sym same) p)

      before : (k : ℕ) → k < next → (k ≡ count → ⊥) → post k (get_or ys k A.worst)
      before k l ne =
          let below : k < count = omega arith in
          subst (post k) (sym (ap (λ zs. get_or zs k A.worst) e ∙ get_or_append_left xs _ A.worst k (omega (arith, h.0)))) (h.1 k below)

-- the cells of the first rows are filled, and of the next row those of the first columns
abbrev pub Cells : {S : Type 0} → Algebra S → (ℕ → ℕ → S → Type 0) → ℕ → ℕ → ℕ → List S → Type 0
Cells A post size from to cells = Filled A (λ p. post (p / size) (p % size)) (from * size + to) cells

module _ {S : Type 0} (A : Algebra S) (post : ℕ → ℕ → S → Type 0) (size : ℕ) where
  pub cells_more : (from to : ℕ) (xs ys : List S) (x : S) → to < size → Cells A post size from to xs → ys ≡ xs ++ x ∷ [] → post from to x → Cells A post size from (to + 1) ys
  cells_more from to xs ys x l h e p =
      filled_more A (λ p. post (p / size) (p % size)) (from * size + to) (from * size + (to + 1)) xs ys x h (omega arith) e
      (subst (λ i. post i ((from * size + to) % size) x) (sym (digits_div from l)) (subst (λ j. post from j x) (sym (digits_mod from l)) p))

  pub cells_row : (from to : ℕ) (xs : List S) → to ≤ size → size ≤ to → Cells A post size from to xs → Cells A post size (from + 1) 0 xs
  cells_row from to xs most least h =
      let e : from * size + to ≡ (from + 1) * size + 0 = omega (arith, suc-mul from size) in
      subst (λ count. Filled A (λ p. post (p / size) (p % size)) count xs) e h

  pub grid_filled : (from : ℕ) (grid : Grid S) → grid.size ≡ size → from ≤ size → size ≤ from → Cells A post size from 0 (vec_items grid.cells) → (f : ℕ → ℕ → S) → GivesPairs post size f → Gridded A size f grid
  grid_filled from grid sized most least h f g = record {
    sized = sized;
    reads = λ i j l m.
        let e : size ≡ from = omega arith in
        let inside : i * size + j < from * size + 0 = omega (arith, digits_lt {c = size} l m, ap (λ s. s * size) e) in
        ap (λ s. get_or (vec_items grid.cells) (i * s + j) A.worst) sized
        ∙ g i j (get_or (vec_items grid.cells) (i * size + j) A.worst) l m
        (subst (λ k. post i k (get_or (vec_items grid.cells) (i * size + j) A.worst)) (digits_mod i m)
        (subst (λ k. post k ((i * size + j) % size) (get_or (vec_items grid.cells) (i * size + j) A.worst)) (digits_div i m) (h.1 (i * size + j) inside)));
  }

-- two pairs of positions with one place are one pair
pub place_apart : (size i j k l : ℕ) → j < size → l < size → (i ≡ k → j ≡ l → ⊥) → i * size + j ≡ k * size + l → ⊥
place_apart size i j k l m n ne e =
    ne (sym (digits_div i m) ∙ ap (λ p. p / size) e ∙ digits_div k n) (sym (digits_mod i m) ∙ ap (λ p. p % size) e ∙ digits_mod k n)
