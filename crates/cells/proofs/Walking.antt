-- The walk over a segment gives the joins and meets over its first tests, and over the followers of each test. Assumes nothing.
use Rattle.std.proofs.Common.{◌≡◌, ℕ, zero, suc, ◌+◌, ◌-◌, ◌<◌, ◌≤◌, Bool, true, false, cond, ltb, List, [], ◌∷◌, ◌++◌, map, length, get_or, Some, None, Option, sym, refl, ap, ◌∙◌, ap₂, ⊎_elim, arith}
use mathlib.Core.List.{map-append}
use mathlib.Core.Path.{fun_ext}
use Rattle.cells.specs.Shape.{tests, none_of, firsts, endings, followers, with_cell}
use Rattle.cells.specs.Reading.{blended}
use Rattle.cells.specs.Step.{count_set, test_cells, wants_every, dealt, over_picked, next_before, followed_by, tests_before}
use Rattle.cells.specs.Walk.{cells_in, enter, follow_at, one_test, Walked}
use Rattle.cells.specs.Walk.{plus as walk_plus}
use Rattle.cells.proofs.Sums.{sum}
use Rattle.cells.proofs.Lengths.{none_length, endings_length}
use Rattle.cells.proofs.Along.{none, summing}
use Rattle.cells.proofs.Contexts.{Parts, worths, follows, follows_length, entered, followed, celled, with_cell_celled}
use Rattle.cells.proofs.Picked.{one_hit, hits, hits_append, picked_is}
use Rattle.rule.specs.declared.leaf.Kind.{Kind}
use Rattle.rule.specs.declared.leaf.Test.{Test}
use Rattle.rule.specs.Tree.{Segment, single, either, chain, star}
use Rattle.scale.specs.Laws.{Algebra, Lawful}
use Rattle.std.proofs.lemmas.List.{get_or_append_left, get_or-append_right}
use Rattle.std.proofs.lemmas.Bool.{false≢true, cases_lt, cond-true, cond-false, lt-ltb, le-ltb}

count_append : (xs ys : List Bool) → count_set (xs ++ ys) ≡ count_set xs + count_set ys
count_append [] ys = omega arith
count_append (true ∷ xs) ys = omega (arith, count_append xs ys)
count_append (false ∷ xs) ys = count_append xs ys

celled_length : (a : Segment) (inside : Bool) → length (celled a inside) ≡ length (tests a)
celled_length a inside = follows_length _ _ _ _ _ a _ inside

celled_count : (a : Segment) (inside : Bool) → count_set (celled a inside) ≡ cells_in a inside
unfolding follows
celled_count (single t) true = refl
celled_count (single t) false = refl
celled_count (either a b) inside = count_append (celled a inside) _ ∙ ap₂ ◌+◌ (celled_count a inside) (celled_count b inside)
celled_count (chain a b) inside = count_append (celled a true) _ ∙ ap₂ ◌+◌ (celled_count a true) (celled_count b inside)
celled_count (star a b) inside = count_append (celled a true) _ ∙ ap₂ ◌+◌ (celled_count a true) (celled_count b inside)

pub counted : (a : Segment) → cells_in a false ≡ test_cells a
counted a = sym (ap count_set (with_cell_celled a) ∙ celled_count a false)

-- the ending tests, where the last letter may end the match
abbrev ending_if : Bool → Segment → List Bool
ending_if ends a = cond ends (endings a) (none_of a)

ending_length : (ends : Bool) (a : Segment) → length (ending_if ends a) ≡ length (tests a)
ending_length true a = endings_length a
ending_length false a = none_length a

ending_both : (ends : Bool) (a b : Segment)
    → cond ends (endings a ++ endings b) (map (λ t. false) (tests a ++ tests b)) ≡ ending_if ends a ++ ending_if ends b
ending_both true a b = refl
ending_both false a b = map-append _ (tests a) (tests b)

ending_second : (ends : Bool) (a b : Segment)
    → cond ends (none_of a ++ endings b) (map (λ t. false) (tests a ++ tests b)) ≡ none_of a ++ ending_if ends b
ending_second true a b = refl
ending_second false a b = map-append _ (tests a) (tests b)

-- the values of the set flags
module _ {V : Type 0} where
  abbrev set_ones : List Bool → List V → List V
  set_ones [] xs = []
  set_ones (true ∷ has) [] = []
  set_ones (false ∷ has) [] = []
  set_ones (true ∷ has) (x ∷ xs) = x ∷ set_ones has xs
  set_ones (false ∷ has) (x ∷ xs) = set_ones has xs

  ones_append : (has more : List Bool) (xs ys : List V) → length has ≡ length xs → set_ones (has ++ more) (xs ++ ys) ≡ set_ones has xs ++ set_ones more ys
  ones_append [] more [] ys l = refl
  ones_append [] more (x ∷ xs) ys l = absurd (omega arith)
  ones_append (h ∷ has) more [] ys l = absurd (omega arith)
  ones_append (true ∷ has) more (x ∷ xs) ys l = ap (λ r. x ∷ r) (ones_append has more xs ys (omega arith))
  ones_append (false ∷ has) more (x ∷ xs) ys l = ones_append has more xs ys (omega arith)

  ones_length : (has : List Bool) (xs : List V) → length has ≡ length xs → length (set_ones has xs) ≡ count_set has
  ones_length [] xs l = refl
  ones_length (h ∷ has) [] l = absurd (omega arith)
  ones_length (true ∷ has) (x ∷ xs) l = ap suc (ones_length has xs (omega arith))
  ones_length (false ∷ has) (x ∷ xs) l = ones_length has xs (omega arith)

  -- a walk that goes into the first part for the first n, and else into the second
  ones_walked : (has more : List Bool) (xs ys : List V) (d : V) (n m base : ℕ) (first second : ℕ → V) → length has ≡ length xs → count_set has ≡ n
      → ((j : ℕ) → j < n → first (base + j) ≡ get_or (set_ones has xs) j d)
      → ((j : ℕ) → j < m → second (base + n + j) ≡ get_or (set_ones more ys) j d)
      → (j : ℕ) → j < n + m → cond (ltb (base + j) (base + n)) (first (base + j)) (second (base + j)) ≡ get_or (set_ones (has ++ more) (xs ++ ys)) j d
  ones_walked has more xs ys d n m base first second l c one other j h = ⊎_elim
      (λ b. cond-true _ _ _ (lt-ltb (base + j) (base + n) (omega arith)) ∙ (one j b ∙ sym (whole ∙ get_or_append_left (set_ones has xs) _ d j (omega (arith, long)))))
      (λ b. cond-false _ _ _ (le-ltb (base + j) (base + n) (omega arith)) ∙ (ap second (back b) ∙ (other (j - n) (omega arith)
      ∙ sym (whole ∙ get_or-append_right (set_ones has xs) _ n j d long b))))
      (cases_lt j n)
    where
      whole : get_or (set_ones (has ++ more) (xs ++ ys)) j d ≡ get_or (set_ones has xs ++ set_ones more ys) j d
      whole = ap (λ r. get_or r j d) (ones_append has more xs ys l)

      long : length (set_ones has xs) ≡ n
      long = ones_length has xs l ∙ c

      back : n ≤ j → base + j ≡ base + n + (j - n)
      back b = omega arith

module _ {S : Type 0} {A : Algebra S} (L : Lawful A) (value : Test → S) (after : ℕ → S) (op : ℕ) where
  dealt_append : (has more : List Bool) (base : ℕ)
      → dealt A value after (has ++ more) base ≡ dealt A value after has base ++ dealt A value after more (base + count_set has)
  dealt_append [] more base = ap (dealt A value after more) same
    where
      same : base ≡ base + 0
      same = omega arith
  dealt_append (true ∷ has) more base = ap (λ r. Some (after base) ∷ r)
      (dealt_append has more (suc base) ∙ ap (λ m. dealt A value after has (suc base) ++ dealt A value after more m) same)
    where
      same : suc base + count_set has ≡ base + suc (count_set has)
      same = omega arith
  dealt_append (false ∷ has) more base = ap (λ r. None ∷ r) (dealt_append has more base)

  dealt_length : (has : List Bool) (base : ℕ) → length (dealt A value after has base) ≡ length has
  dealt_length [] base = refl
  dealt_length (true ∷ has) base = ap suc (dealt_length has (suc base))
  dealt_length (false ∷ has) base = ap suc (dealt_length has base)

  -- may a test around follow, may the last letter end the match, and the first cell
  abbrev Place : Type 0
  Place = Bool × Bool × ℕ

  abbrev left : Segment → Place → Place
  left (single t) c = c
  left (either a b) c = c
  left (chain a b) c = (true, false, c.2)
  left (star a b) c = (true, false, c.2)

  abbrev right : Segment → Place → Place
  right (single t) c = c
  right (either a b) c = (c.0, c.1, c.2 + cells_in a c.0)
  right (chain a b) c = (c.0, c.1, c.2 + cells_in a true)
  right (star a b) c = (c.0, c.1, c.2 + cells_in a true)

  module _ (every : Bool) where
    abbrev worth : Segment → Place → S
    worth a c = enter A value after op every a c.0 c.1 c.2

    abbrev each : Segment → Place → List S
    each a c = worths (blended A every) (none A every) worth left right a c

    abbrev afters : Segment → Place → S → List S
    afters a c within = follows (blended A every) (none A every) worth left right a c within

    fits : (a : Segment) (inside : Bool) (c : Place) (within : S) → length (celled a inside) ≡ length (afters a c within)
    fits a inside c within = celled_length a inside ∙ sym (follows_length _ _ _ _ _ a c within)

  same_plus : (every : Bool) (x y : S) → walk_plus A value after op every x y ≡ blended A every x y
  same_plus true x y = refl
  same_plus false x y = refl

  parts : (every : Bool) → Parts (blended A every) (none A every) (worth every) left right
  unfolding enter
  parts every = record {
    by_either = λ a b c. same_plus every _ _;
    by_chain = λ a b c. refl;
    by_star = λ a b c. same_plus every _ _;
  }

  module _ (every : Bool) where
    abbrev told : List Test → List Bool → ℕ → List Bool → List S
    told ts has base ends = hits A value after every (after op) ts (dealt A value after has base) ends

    told_append : (a b : Segment) (i j e f : Bool) (base : ℕ) {flags : List Bool} → flags ≡ ending_if e a ++ ending_if f b
        → told (tests a ++ tests b) (celled a i ++ celled b j) base flags
        ≡ told (tests a) (celled a i) base (ending_if e a) ++ told (tests b) (celled b j) (base + cells_in a i) (ending_if f b)
    told_append a b i j e f base same = ap₂ (hits A value after every (after op) (tests a ++ tests b))
        (dealt_append (celled a i) (celled b j) base ∙ ap (λ m. dealt A value after (celled a i) base ++ dealt A value after (celled b j) (base + m)) (celled_count a i)) same
        ∙ hits_append A value after every (after op) (tests a) (tests b) _ _ (ending_if e a) (ending_if f b)
        (dealt_length (celled a i) base ∙ celled_length a i) (ending_length e a)

    same_test : (t : Test) (cell : Option S) (ends : Bool) → one_hit A value after every (after op) t cell ends ≡ one_test A value after op every t cell ends
    same_test t cell ends = by every
      where
        by : (every : Bool) → one_hit A value after every (after op) t cell ends ≡ one_test A value after op every t cell ends
        by true = refl
        by false = refl

    -- each test with its cell and the operator's is worth what it is in its place
    told_each : (a : Segment) (inside ends : Bool) (base : ℕ) → told (tests a) (celled a inside) base (ending_if ends a) ≡ each every a (inside, ends, base)
    unfolding tests endings follows worths enter
    told_each (single t) true true base = ap (λ x. x ∷ []) (same_test t _ _)
    told_each (single t) true false base = ap (λ x. x ∷ []) (same_test t _ _)
    told_each (single t) false true base = ap (λ x. x ∷ []) (same_test t _ _)
    told_each (single t) false false base = ap (λ x. x ∷ []) (same_test t _ _)
    told_each (either a b) inside ends base = told_append a b inside inside ends ends base (ending_both ends a b)
        ∙ ap₂ ◌++◌ (told_each a inside ends base) (told_each b inside ends _)
    told_each (chain a b) inside ends base = told_append a b true inside false ends base (ending_second ends a b)
        ∙ ap₂ ◌++◌ (told_each a true false base) (told_each b inside ends _)
    told_each (star a b) inside ends base = told_append a b true inside false ends base (ending_second ends a b)
        ∙ ap₂ ◌++◌ (told_each a true false base) (told_each b inside ends _)

    -- the walk to a test's cell; what may follow from around counts only inside
    walked_at : (a : Segment) (around within : S) (inside ends : Bool) (base : ℕ) → (inside ≡ true → around ≡ within) → (j : ℕ) → j < cells_in a inside
        → follow_at A value after op every a around inside ends base (base + j)
        ≡ get_or (set_ones (celled a inside) (afters every a (inside, ends, base) within)) j A.worst
    unfolding follows follow_at
    walked_at (single t) around within true ends base same zero h = same refl
    walked_at (single t) around within true ends base same (suc j) h = absurd (omega arith)
    walked_at (single t) around within false ends base same j h = absurd (omega arith)
    walked_at (either a b) around within inside ends base same j h = ones_walked (celled a inside) (celled b inside) _ _ A.worst (cells_in a inside) (cells_in b inside) base
        (follow_at A value after op every a around inside ends base) (follow_at A value after op every b around inside ends (base + cells_in a inside))
        (fits every a _ _ _) (celled_count a inside) (walked_at a around within inside ends base same) (walked_at b around within inside ends _ same) j h
    walked_at (chain a b) around within inside ends base same j h = ones_walked (celled a true) (celled b inside) _ _ A.worst (cells_in a true) (cells_in b inside) base
        (follow_at A value after op every a _ true false base) (follow_at A value after op every b around inside ends (base + cells_in a true))
        (fits every a _ _ _) (celled_count a true) (walked_at a _ _ true false base (λ e. refl)) (walked_at b around within inside ends _ same) j h
    walked_at (star a b) around within inside ends base same j h = ones_walked (celled a true) (celled b inside) _ _ A.worst (cells_in a true) (cells_in b inside) base
        (follow_at A value after op every a _ true false base) (follow_at A value after op every b around inside ends (base + cells_in a true))
        (fits every a _ _ _) (celled_count a true) (walked_at a _ _ true false base (λ e. refl)) (walked_at b around within inside ends _ same) j h

  module _ (k : Kind) (a : Segment) (base : ℕ) where
    over_row : (row : List Bool) → over_picked A value after k a op base row
        ≡ sum (blended A (wants_every k)) (none A (wants_every k)) row (each (wants_every k) a (false, true, base))
    over_row row = picked_is A value after (wants_every k) (after op) row (tests a) _ (endings a)
        ∙ ap (sum (blended A (wants_every k)) (none A (wants_every k)) row)
        (ap (λ has. told (wants_every k) (tests a) has base (endings a)) (with_cell_celled a) ∙ told_each (wants_every k) a false true base)

    entered_is : enter A value after op (wants_every k) a false true base ≡ next_before A value after k a op base
    entered_is = sym (over_row (firsts a) ∙ entered _ _ _ _ _ (summing L (wants_every k)) (parts (wants_every k)) a (false, true, base))

    ones_of : (has : List Bool) (rows : List (List Bool)) → followed_by A value after k a op base has rows ≡ set_ones has (map (over_picked A value after k a op base) rows)
    ones_of [] rows = refl
    ones_of (true ∷ has) [] = refl
    ones_of (false ∷ has) [] = refl
    ones_of (true ∷ has) (row ∷ rows) = ap (λ r. over_picked A value after k a op base row ∷ r) (ones_of has rows)
    ones_of (false ∷ has) (row ∷ rows) = ones_of has rows

    tests_are : tests_before A value after k a op base ≡ set_ones (celled a false) (afters (wants_every k) a (false, true, base) (none A (wants_every k)))
    tests_are = ones_of (with_cell a) (followers a) ∙ ap₂ set_ones (with_cell_celled a) (ap (λ f. map f (followers a)) (fun_ext over_row)
        ∙ followed _ _ _ _ _ (summing L (wants_every k)) (parts (wants_every k)) a (false, true, base))

    followed_is : (j : ℕ) → j < test_cells a
        → follow_at A value after op (wants_every k) a A.worst false true base (base + j) ≡ get_or (tests_before A value after k a op base) j A.worst
    followed_is j h = walked_at (wants_every k) a A.worst (none A (wants_every k)) false true base (λ e. absurd (false≢true e)) j (omega (arith, h, counted a))
        ∙ sym (ap (λ xs. get_or xs j A.worst) tests_are)

pub walked : {S : Type 0} {A : Algebra S} → Lawful A → Walked A
walked L = record {
  counted = counted;
  entered = λ value after op k a base. entered_is L value after op k a base;
  followed = λ value after op k a base j h. followed_is L value after op k a base j h;
}
