-- The rows and grids of values that the evaluator fills, and what they hold. Assumes nothing.
use Rattle.std.specs.Prelude.{◌≡◌, ℕ, zero, suc, ◌+◌, ◌*◌, ◌<◌, ◌≤◌, List, length, vec_items, slice_index_or}
use Rattle.scale.specs.Laws.{Algebra}
use Rattle.evaluator.specs.declared.grid.Grid.{Grid}

-- what a row holds at position k
abbrev pub entry : {S : Type 0} → Algebra S → List S → ℕ → S
entry A row k = slice_index_or row k A.worst

-- what a grid holds from position i to position j: its rows stand one after another
abbrev pub cell : {S : Type 0} → Algebra S → Grid S → ℕ → ℕ → S
cell A grid i j = slice_index_or (vec_items grid.cells) (i * grid.size + j) A.worst

-- the row holds f at each position below the size, and no more
pub record Rowed {S : Type 0} (A : Algebra S) (size : ℕ) (f : ℕ → S) (row : List S) : Type 0 where
  pub sized : length row ≡ size
  pub reads : (k : ℕ) → k < size → entry A row k ≡ f k

-- the grid holds f at each pair of positions below the size, and no more
pub record Gridded {S : Type 0} (A : Algebra S) (size : ℕ) (f : ℕ → ℕ → S) (grid : Grid S) : Type 0 where
  pub sized : grid.size ≡ size
  pub reads : (i j : ℕ) → i < size → j < size → cell A grid i j ≡ f i j

-- calls that return what `post` says return f, at each position from low to below high
abbrev pub Gives : {S : Type 0} → (ℕ → S → Type 0) → ℕ → ℕ → (ℕ → S) → Type 0
Gives {S} post low high f = (k : ℕ) (x : S) → low ≤ k → k < high → post k x → x ≡ f k

-- calls that return what `post` says return f, at each pair of positions below the size
abbrev pub GivesPairs : {S : Type 0} → (ℕ → ℕ → S → Type 0) → ℕ → (ℕ → ℕ → S) → Type 0
GivesPairs {S} post size f = (i j : ℕ) (x : S) → i < size → j < size → post i j x → x ≡ f i j

-- calls that return what `post` says of two values return m of them
abbrev pub Merges : {S : Type 0} → (S → S → S → Type 0) → (S → S → S) → Type 0
Merges {S} post m = (x y z : S) → post x y z → z ≡ m x y

-- a start, merged with f at the count positions from the first one on
unfoldable pub merged : {S : Type 0} → (S → S → S) → S → ℕ → ℕ → (ℕ → S) → S
merged m start first zero f = start
merged m start first (suc count) f = m (merged m start first count f) (f (first + count))
