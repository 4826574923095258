-- Sums of what a row of flags picks from a list of values, and rows of flags side by side. Assumes nothing.
use Rattle.std.proofs.Common.{◌≡◌, ℕ, suc, Bool, true, false, cond, ◌||◌, List, [], ◌∷◌, ◌++◌, map, length, sym, refl, ap, ◌∙◌, ap₂, arith}
use Rattle.cells.specs.Shape.{either_of, with_each}

-- a sum that keeps the laws of a join
pub record Summing {V : Type 0} (plus : V → V → V) (none : V) : Type 0 where
  pub assoc : (x y z : V) → plus (plus x y) z ≡ plus x (plus y z)
  pub comm : (x y : V) → plus x y ≡ plus y x
  pub idem : (x : V) → plus x x ≡ x
  pub unit : (x : V) → plus none x ≡ x

module _ {V : Type 0} (plus : V → V → V) (none : V) where
  -- the sum of the picked values
  abbrev pub sum : List Bool → List V → V
  sum [] xs = none
  sum (p ∷ ps) [] = none
  sum (p ∷ ps) (x ∷ xs) = plus (cond p x none) (sum ps xs)

module _ {V : Type 0} where
  -- what h makes of each flag and its row
  abbrev pub zipped : (Bool → List Bool → V) → List Bool → List (List Bool) → List V
  zipped h [] rows = []
  zipped h (e ∷ es) [] = []
  zipped h (e ∷ es) (row ∷ rows) = h e row ∷ zipped h es rows

-- every row has so many flags
abbrev pub Even : ℕ → List (List Bool) → Type 0
Even m [] = Unit {0}
Even m (row ∷ rows) = (length row ≡ m) × Even m rows

module _ {V : Type 0} {plus : V → V → V} {none : V} (M : Summing plus none) where
  pub unit_right : (x : V) → plus x none ≡ x
  unit_right x = M.comm x none ∙ M.unit x

  pub sum_append : (ps qs : List Bool) (xs ys : List V) → length ps ≡ length xs
      → sum plus none (ps ++ qs) (xs ++ ys) ≡ plus (sum plus none ps xs) (sum plus none qs ys)
  sum_append [] qs [] ys e = sym (M.unit _)
  sum_append [] qs (x ∷ xs) ys e = absurd (omega arith)
  sum_append (p ∷ ps) qs [] ys e = absurd (omega arith)
  sum_append (p ∷ ps) qs (x ∷ xs) ys e = ap (plus (cond p x none)) (sum_append ps qs xs ys (omega arith)) ∙ sym (M.assoc _ _ _)

  pub sum_none : {X : Type 0} (ts : List X) (xs : List V) → sum plus none (map (λ t. false) ts) xs ≡ none
  sum_none [] xs = refl
  sum_none (t ∷ ts) [] = refl
  sum_none (t ∷ ts) (x ∷ xs) = M.unit _ ∙ sum_none ts xs

  exchange : (x y z w : V) → plus (plus x y) (plus z w) ≡ plus (plus x z) (plus y w)
  exchange x y z w = M.assoc x y (plus z w)
      ∙ (ap (plus x) (sym (M.assoc y z w) ∙ (ap (λ u. plus u w) (M.comm y z) ∙ M.assoc z y w)) ∙ sym (M.assoc x z (plus y w)))

  one_or_other : (p q : Bool) (x : V) → cond (p || q) x none ≡ plus (cond p x none) (cond q x none)
  one_or_other true true x = sym (M.idem x)
  one_or_other true false x = sym (unit_right x)
  one_or_other false true x = sym (M.unit x)
  one_or_other false false x = sym (M.unit none)

  pub sum_either : (ps qs : List Bool) (xs : List V) → sum plus none (either_of ps qs) xs ≡ plus (sum plus none ps xs) (sum plus none qs xs)
  sum_either [] qs xs = sym (M.unit _)
  sum_either (p ∷ ps) [] xs = sym (unit_right _)
  sum_either (p ∷ ps) (q ∷ qs) [] = sym (M.unit none)
  sum_either (p ∷ ps) (q ∷ qs) (x ∷ xs) = ap₂ plus (one_or_other p q x) (sum_either ps qs xs) ∙ exchange _ _ _ _

module _ {V : Type 0} where
  pub zipped_append : (h : Bool → List Bool → V) (es fs : List Bool) (rows others : List (List Bool)) → length es ≡ length rows
      → zipped h (es ++ fs) (rows ++ others) ≡ zipped h es rows ++ zipped h fs others
  zipped_append h [] fs [] others e = refl
  zipped_append h [] fs (row ∷ rows) others e = absurd (omega arith)
  zipped_append h (x ∷ es) fs [] others e = absurd (omega arith)
  zipped_append h (x ∷ es) fs (row ∷ rows) others e = ap (λ r. h x row ∷ r) (zipped_append h es fs rows others (omega arith))

  pub zipped_map : (h h' : Bool → List Bool → V) (f : List Bool → List Bool) (m : ℕ) → ((e : Bool) (row : List Bool) → length row ≡ m → h e (f row) ≡ h' e row)
      → (es : List Bool) (rows : List (List Bool)) → Even m rows → zipped h es (map f rows) ≡ zipped h' es rows
  zipped_map h h' f m same [] rows v = refl
  zipped_map h h' f m same (e ∷ es) [] v = refl
  zipped_map h h' f m same (e ∷ es) (row ∷ rows) v = ap₂ (λ x r. x ∷ r) (same e row v.0) (zipped_map h h' f m same es rows v.1)

  pub zipped_each : {X : Type 0} (h h' : Bool → List Bool → V) (f : Bool → List Bool → List Bool) (m : ℕ)
      → ((e : Bool) (row : List Bool) → length row ≡ m → h false (f e row) ≡ h' e row)
      → (ts : List X) (es : List Bool) (rows : List (List Bool)) → length ts ≡ length es → Even m rows
      → zipped h (map (λ t. false) ts) (with_each f es rows) ≡ zipped h' es rows
  zipped_each h h' f m same [] [] rows l v = refl
  zipped_each h h' f m same [] (e ∷ es) rows l v = absurd (omega arith)
  zipped_each h h' f m same (t ∷ ts) [] rows l v = absurd (omega arith)
  zipped_each h h' f m same (t ∷ ts) (e ∷ es) [] l v = refl
  zipped_each h h' f m same (t ∷ ts) (e ∷ es) (row ∷ rows) l v =
      ap₂ (λ x r. x ∷ r) (same e row v.0) (zipped_each h h' f m same ts es rows (omega arith) v.1)

  -- where the flag does not count, it is the rows alone
  pub zipped_rows : (h : Bool → List Bool → V) (f : List Bool → V) → ((e : Bool) (row : List Bool) → h e row ≡ f row)
      → (es : List Bool) (rows : List (List Bool)) → length es ≡ length rows → zipped h es rows ≡ map f rows
  zipped_rows h f same [] [] l = refl
  zipped_rows h f same [] (row ∷ rows) l = absurd (omega arith)
  zipped_rows h f same (e ∷ es) [] l = absurd (omega arith)
  zipped_rows h f same (e ∷ es) (row ∷ rows) l = ap₂ (λ x r. x ∷ r) (same e row) (zipped_rows h f same es rows (omega arith))

pub even_append : (m : ℕ) (rows others : List (List Bool)) → Even m rows → Even m others → Even m (rows ++ others)
even_append m [] others v w = w
even_append m (row ∷ rows) others v w = (v.0, even_append m rows others v.1 w)

pub even_map : (f : List Bool → List Bool) (m l : ℕ) → ((row : List Bool) → length row ≡ m → length (f row) ≡ l)
    → (rows : List (List Bool)) → Even m rows → Even l (map f rows)
even_map f m l long [] v = v
even_map f m l long (row ∷ rows) v = (long row v.0, even_map f m l long rows v.1)

pub even_each : (f : Bool → List Bool → List Bool) (m l : ℕ) → ((e : Bool) (row : List Bool) → length row ≡ m → length (f e row) ≡ l)
    → (es : List Bool) (rows : List (List Bool)) → Even m rows → Even l (with_each f es rows)
even_each f m l long [] rows v = record {}
even_each f m l long (e ∷ es) [] v = record {}
even_each f m l long (e ∷ es) (row ∷ rows) v = (long e row v.0, even_each f m l long es rows v.1)

pub length_each : (f : Bool → List Bool → List Bool) (es : List Bool) (rows : List (List Bool)) → length es ≡ length rows
    → length (with_each f es rows) ≡ length rows
length_each f [] [] l = refl
length_each f [] (row ∷ rows) l = absurd (omega arith)
length_each f (e ∷ es) [] l = absurd (omega arith)
length_each f (e ∷ es) (row ∷ rows) l = ap suc (length_each f es rows (omega arith))

pub length_either : (ps qs : List Bool) → length ps ≡ length qs → length (either_of ps qs) ≡ length ps
length_either [] [] l = refl
length_either [] (q ∷ qs) l = absurd (omega arith)
length_either (p ∷ ps) [] l = refl
length_either (p ∷ ps) (q ∷ qs) l = ap suc (length_either ps qs (omega arith))
