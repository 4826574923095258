-- The grid of any number of steps while it is filled. Assumes nothing.
use Rattle.std.proofs.Common.{◌≡◌, ℕ, suc, ◌+◌, ◌<◌, ◌≤◌, cond, eqb, sym, ap, ◌∙◌, ap₂, ⊎_elim, arith}
use Rattle.scale.specs.Laws.{Algebra}
use Rattle.evaluator.specs.declared.grid.Grid.{Grid}
use Rattle.evaluator.specs.Tables.{cell, Gridded}
use Rattle.semantics.specs.Folds.{join_over}
use Rattle.semantics.specs.Positions.{repeats}
use Rattle.semantics.proofs.Bounds.{join_over_same, repeated, repeats_back}
use Rattle.std.proofs.lemmas.Bool.{cases_eq, eq-eqb, ne_eqb, cond-true, cond-false}

-- the diagonal and what lies before it is filled, and so are the rows from one on
pub record Stepped {S : Type 0} (A : Algebra S) (m : ℕ → ℕ → S) (size row : ℕ) (steps : Grid S) : Type 0 where
  pub sized : steps.size ≡ size
  pub back : (i j : ℕ) → i < size → j ≤ i → cell A steps i j ≡ repeats A m i j
  pub later : (i j : ℕ) → row ≤ i → i < size → j < size → cell A steps i j ≡ repeats A m i j

-- and in the row before these, the first columns
abbrev pub SteppedTo : {S : Type 0} → Algebra S → (ℕ → ℕ → S) → ℕ → ℕ → ℕ → Grid S → Type 0
SteppedTo A m size row column steps = Stepped A m size (row + 1) steps × ((j : ℕ) → j < column → cell A steps row j ≡ repeats A m row j)

module _ {S : Type 0} (A : Algebra S) (m : ℕ → ℕ → S) (size : ℕ) where
  -- it begins with the diagonal
  pub stepped_none : (row : ℕ) (steps : Grid S) → size ≤ row → Gridded A size (λ i j. cond (eqb i j) A.best A.worst) steps → Stepped A m size row steps
  stepped_none row steps l h = record {
    sized = h.sized;
    back = λ i j k below. h.reads i j k (omega arith) ∙ ⊎_elim (same i j) (before i j below) (cases_eq i j);
    later = λ i j above k n. absurd (omega arith);
  }
    where
      same : (i j : ℕ) → i ≡ j → cond (eqb i j) A.best A.worst ≡ repeats A m i j
      same i j e = cond-true _ _ _ (eq-eqb i j e) ∙ sym ((repeated A m).none i) ∙ ap (repeats A m i) e

      before : (i j : ℕ) → j ≤ i → (i ≡ j → ⊥) → cond (eqb i j) A.best A.worst ≡ repeats A m i j
      before i j below ne = cond-false _ _ _ (ne_eqb i j ne) ∙ sym (repeats_back A m i j (omega arith))

  -- the next column
  pub stepped_more : (row column : ℕ) (steps next : Grid S) (value : S) → row < column → column < size → SteppedTo A m size row column steps
      → value ≡ join_over A (row + 1) (column + 1) (λ k. A.meet (m row k) (cell A steps k column))
      → next.size ≡ steps.size → cell A next row column ≡ value
      → ((i j : ℕ) → i < steps.size → j < steps.size → (i ≡ row → j ≡ column → ⊥) → cell A next i j ≡ cell A steps i j)
      → SteppedTo A m size row (column + 1) next
  stepped_more row column steps next value before inside h is sized here others = (
    record {
      sized = sized ∙ h.0.sized;
      back = λ i j l below. others i j (omega (arith, h.0.sized)) (omega (arith, h.0.sized)) (λ e f. omega arith) ∙ h.0.back i j l below;
      later = λ i j above l k. others i j (omega (arith, h.0.sized)) (omega (arith, h.0.sized)) (λ e f. omega arith) ∙ h.0.later i j above l k;
    },
    λ j below. ⊎_elim (this j) (others_in_row j below) (cases_eq j column),
  )
    where
      made : value ≡ repeats A m row column
      made =
          let low : row + 1 ≡ suc row = omega arith in
          let high : column + 1 ≡ suc column = omega arith in
          is ∙ ap₂ (λ a b. join_over A a b (λ k. A.meet (m row k) (cell A steps k column))) low high
          ∙ join_over_same A (suc row) (suc column) _ _ (λ k a b. ap (A.meet (m row k)) (h.0.later k column (omega arith) (omega arith) inside))
          ∙ sym ((repeated A m).more row column before)

      this : (j : ℕ) → j ≡ column → cell A next row j ≡ repeats A m row j
      this j e = ap (cell A next row) e ∙ here ∙ made ∙ ap (repeats A m row) (sym e)

      others_in_row : (j : ℕ) → j < column + 1 → (j ≡ column → ⊥) → cell A next row j ≡ repeats A m row j
      others_in_row j below ne = others row j (omega (arith, h.0.sized)) (omega (arith, h.0.sized)) (λ e f. ne f) ∙ h.1 j (omega arith)

  -- the whole row
  pub stepped_row : (row column : ℕ) (steps : Grid S) → size ≤ column → SteppedTo A m size row column steps → Stepped A m size row steps
  stepped_row row column steps most h = record {
    sized = h.0.sized;
    back = h.0.back;
    later = λ i j above l k. ⊎_elim (λ e. ap (λ r. cell A steps r j) e ∙ h.1 j (omega arith) ∙ ap (λ r. repeats A m r j) (sym e)) (λ ne. h.0.later i j (omega arith) l k) (cases_eq i row);
  }
