-- Corners, rows and tables: how the cells before a volume depend on the cells after it. A volume is a stretch of a log
-- whose beginning need not be known. Assumes nothing.
use Rattle.std.specs.Prelude.{◌≡◌, ℕ, zero, suc, ◌+◌, ◌/◌, ◌%◌, ◌^◌, ◌<◌, Bool, true, cond, ◌==◌}
use Rattle.scale.specs.Laws.{Algebra, Below}
use Rattle.semantics.specs.Folds.{join_over, meet_over}

-- a corner is a set of cells, numbered with bit k for cell k
abbrev pub has : ℕ → ℕ → Bool
has corner k = corner / 2 ^ k % 2 == 1

-- one corner lies in another, of n cells
abbrev pub Inside : ℕ → ℕ → ℕ → Type 0
Inside n c d = (k : ℕ) → k < n → has c k ≡ true → has d k ≡ true

module _ {S : Type 0} (A : Algebra S) where
  -- the cell values of a corner: its cells best, the others worst
  abbrev pub at_corner : ℕ → ℕ → S
  at_corner corner k = cond (has corner k) A.best A.worst

  -- the meet of the values of a corner's cells
  abbrev pub of_corner : ℕ → (ℕ → S) → ℕ → S
  of_corner n v corner = meet_over A 0 n (λ k. cond (has corner k) (v k) A.best)

  -- a row at cell values v: the join, over the corners of n cells, of its entry met with v of the corner's cells
  unfoldable pub at : ℕ → (ℕ → S) → (ℕ → S) → S
  at n row v = join_over A 0 (2 ^ n) (λ c. A.meet (row c) (of_corner n v c))

  -- the same by halving: the entries without the last cell, joined with its value met with the entries with it
  unfoldable pub halved : ℕ → (ℕ → S) → (ℕ → S) → S
  halved zero row v = row 0
  halved (suc n) row v = A.join (halved n row v) (A.meet (v n) (halved n (λ c. row (2 ^ n + c)) v))

  -- the empty volume: row k is best where bit k is set
  abbrev pub empty : ℕ → ℕ → S
  empty k corner = at_corner corner k

  -- one volume after another: each row of the first, taken at the values of the second's rows
  abbrev pub followed : ℕ → (ℕ → ℕ → S) → (ℕ → ℕ → S) → ℕ → ℕ → S
  followed n first second k corner = at n (first k) (λ j. second j corner)

  -- a row rises: a narrower corner's entry lies below a wider one's
  abbrev pub Rises : ℕ → (ℕ → S) → Type 0
  Rises n row = (c d : ℕ) → c < 2 ^ n → d < 2 ^ n → Inside n c d → Below A (row c) (row d)

  abbrev pub AllRise : ℕ → (ℕ → ℕ → S) → Type 0
  AllRise n table = (k : ℕ) → k < n → Rises n (table k)

-- what joins and meets make of cells and fixed values
pub data Made (S : Type 0) : Type 0 where
  fixed : S → Made S
  cell : ℕ → Made S
  joins : Made S → Made S → Made S
  meets : Made S → Made S → Made S

abbrev pub made_of : {S : Type 0} → Algebra S → Made S → (ℕ → S) → S
made_of A (fixed x) v = x
made_of A (cell k) v = v k
made_of A (joins p q) v = A.join (made_of A p v) (made_of A q v)
made_of A (meets p q) v = A.meet (made_of A p v) (made_of A q v)

-- only the cells below n
abbrev pub Within : {S : Type 0} → ℕ → Made S → Type 0
Within n (fixed x) = Unit {0}
Within n (cell k) = k < n
Within n (joins p q) = Within n p × Within n q
Within n (meets p q) = Within n p × Within n q

-- the laws of rows of n cells
pub record RowLaws {S : Type 0} (A : Algebra S) (n : ℕ) : Type 0 where
  -- halving gives the join over corners, for every row
  pub by_halves : (row v : ℕ → S) → at A n row v ≡ halved A n row v
  -- what joins and meets make of the cells is determined by its row
  pub determined : (p : Made S) → Within n p → (v : ℕ → S) → made_of A p v ≡ at A n (λ c. made_of A p (at_corner A c)) v
  -- and that row rises
  pub made_rises : (p : Made S) → Within n p → Rises A n (λ c. made_of A p (at_corner A c))
  -- a rising row at a corner is its entry; any row at all worst is its first, a rising one at all best its last
  pub at_entry : (row : ℕ → S) → Rises A n row → (c : ℕ) → c < 2 ^ n → at A n row (at_corner A c) ≡ row c
  pub at_worst : (row : ℕ → S) → at A n row (λ k. A.worst) ≡ row 0
  pub at_best : (row : ℕ → S) → Rises A n row → (last : ℕ) → suc last ≡ 2 ^ n → at A n row (λ k. A.best) ≡ row last
  -- rows that rise still rise after one another
  pub followed_rises : (P Q : ℕ → ℕ → S) → AllRise A n P → AllRise A n Q → AllRise A n (followed A n P Q)
  -- a row after a row: first taken at the values of the second's rows, at v
  pub composed : (row : ℕ → S) (Q : ℕ → ℕ → S) (v : ℕ → S) → Rises A n row → AllRise A n Q
      → at A n (λ c. at A n row (λ j. Q j c)) v ≡ at A n row (λ j. at A n (Q j) v)
  -- one after another is associative, and the empty volume is neutral on both sides
  pub associative : (P Q R : ℕ → ℕ → S) → AllRise A n P → AllRise A n Q → AllRise A n R → (k c : ℕ) → k < n → c < 2 ^ n
      → followed A n (followed A n P Q) R k c ≡ followed A n P (followed A n Q R) k c
  pub empty_first : (P : ℕ → ℕ → S) (k c : ℕ) → k < n → followed A n (empty A) P k c ≡ P k c
  pub empty_last : (P : ℕ → ℕ → S) → AllRise A n P → (k c : ℕ) → k < n → c < 2 ^ n → followed A n P (empty A) k c ≡ P k c
  pub empty_rises : AllRise A n (empty A)
