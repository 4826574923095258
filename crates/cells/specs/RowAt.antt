-- A row at cell values, both as lists. Assumes nothing.
use Rattle.std.specs.Prelude.{◌≡◌, ℕ, ◌^◌, ◌<◌, List, length, Some, None, Option, slice_index_or}
use Rattle.scale.specs.Laws.{Algebra}
use Rattle.cells.specs.Rows.{at}

module _ {S : Type 0} (A : Algebra S) where
  -- the value at a place of a list
  abbrev pub listed : List S → ℕ → S
  listed xs k = slice_index_or xs k A.worst

  -- the row at the cells' values; none exactly where the row has not a value for each corner
  abbrev pub RowAt : List S → List S → Option S → Type 0
  RowAt row values (Some x) = (length row ≡ 2 ^ length values) × (x ≡ at A (length values) (listed row) (listed values))
  RowAt row values None = length row ≡ 2 ^ length values → ⊥

-- a call that gives the first n cells these values and no others: post tells what it may answer for a cell
abbrev pub Gives : {S : Type 0} → (ℕ → S → Type 0) → ℕ → (ℕ → S) → Type 0
Gives {S} post n v = (cell : ℕ) → cell < n → (x : S) → post cell x → x ≡ v cell

module _ {S : Type 0} (A : Algebra S) where
  -- the row of n cells at the values that a call gives them; none exactly where the row has not a value for each corner
  abbrev pub RowBy : List S → ℕ → (ℕ → S → Type 0) → Option S → Type 0
  RowBy row n post (Some x) = (length row ≡ 2 ^ n) × ((v : ℕ → S) → Gives post n v → x ≡ at A n (listed A row) v)
  RowBy row n post None = length row ≡ 2 ^ n → ⊥
