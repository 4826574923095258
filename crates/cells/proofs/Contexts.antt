-- Segments in a context: the first tests sum up to the segment, the followers of each test to what may follow it. Assumes nothing.
use Rattle.std.proofs.Common.{◌≡◌, ℕ, ◌+◌, Bool, true, false, cond, ◌||◌, List, [], ◌∷◌, ◌++◌, map, length, sym, refl, ap, ◌∙◌, ap₂, arith, length-append}
use lib.ListN.{length-map}
use Rattle.std.proofs.Math.Bool.{or_assoc, or_comm, or_self}
use Rattle.cells.specs.Shape.{tests, none_of, firsts, endings, either_of, with_each, followers, some_set, with_cell}
use Rattle.cells.proofs.Sums.{Summing, sum, zipped, Even, unit_right, sum_append, sum_none, sum_either, zipped_append, zipped_map, zipped_each, zipped_rows, length_each, length_either}
use Rattle.cells.proofs.Lengths.{none_length, firsts_length, endings_length, followers_length, ends_rows, one_length, followers_even}
use Rattle.rule.specs.Tree.{Segment, single, either, chain, star}

-- worth is what a segment is worth in a context; a segment of two parts puts them in contexts of their own
module _ {C V : Type 0} (plus : V → V → V) (none : V) (worth : Segment → C → V) (left right : Segment → C → C) where
  -- a segment's worth sums up over the parts that may read its first letter
  pub record Parts : Type 0 where
    pub by_either : (a b : Segment) (c : C) → worth (either a b) c ≡ plus (worth a (left (either a b) c)) (worth b (right (either a b) c))
    pub by_chain : (a b : Segment) (c : C) → worth (chain a b) c ≡ worth a (left (chain a b) c)
    pub by_star : (a b : Segment) (c : C) → worth (star a b) c ≡ plus (worth a (left (star a b) c)) (worth b (right (star a b) c))

  -- each test in its context
  unfoldable pub worths : Segment → C → List V
  worths (single t) c = worth (single t) c ∷ []
  worths (either a b) c = worths a (left (either a b) c) ++ worths b (right (either a b) c)
  worths (chain a b) c = worths a (left (chain a b) c) ++ worths b (right (chain a b) c)
  worths (star a b) c = worths a (left (star a b) c) ++ worths b (right (star a b) c)

  -- what may follow each test, where within may follow the whole
  unfoldable pub follows : Segment → C → V → List V
  follows (single t) c within = within ∷ []
  follows (either a b) c within = follows a (left (either a b) c) within ++ follows b (right (either a b) c) within
  follows (chain a b) c within = follows a (left (chain a b) c) (worth b (right (chain a b) c)) ++ follows b (right (chain a b) c) within
  follows (star a b) c within = follows a (left (star a b) c) (worth (star a b) c) ++ follows b (right (star a b) c) within

  pub worths_length : (a : Segment) (c : C) → length (worths a c) ≡ length (tests a)
  unfolding tests worths
  worths_length (single t) c = refl
  worths_length (either a b) c = simp length-append (ap₂ ◌+◌ (worths_length a _) (worths_length b _))
  worths_length (chain a b) c = simp length-append (ap₂ ◌+◌ (worths_length a _) (worths_length b _))
  worths_length (star a b) c = simp length-append (ap₂ ◌+◌ (worths_length a _) (worths_length b _))

  pub follows_length : (a : Segment) (c : C) (within : V) → length (follows a c within) ≡ length (tests a)
  unfolding tests follows
  follows_length (single t) c within = refl
  follows_length (either a b) c within = simp length-append (ap₂ ◌+◌ (follows_length a _ _) (follows_length b _ _))
  follows_length (chain a b) c within = simp length-append (ap₂ ◌+◌ (follows_length a _ _) (follows_length b _ _))
  follows_length (star a b) c within = simp length-append (ap₂ ◌+◌ (follows_length a _ _) (follows_length b _ _))

  module _ (M : Summing plus none) (P : Parts) where
    firsts_fit : (a : Segment) (c : C) → length (firsts a) ≡ length (worths a c)
    firsts_fit a c = firsts_length a ∙ sym (worths_length a c)

    -- the first tests sum up to the segment
    pub entered : (a : Segment) (c : C) → sum plus none (firsts a) (worths a c) ≡ worth a c
    unfolding firsts worths
    entered (single t) c = unit_right M _
    entered (either a b) c = sum_append M (firsts a) (firsts b) _ _ (firsts_fit a _)
        ∙ (ap₂ plus (entered a _) (entered b _) ∙ sym (P.by_either a b c))
    entered (chain a b) c = sum_append M (firsts a) (none_of b) _ _ (firsts_fit a _)
        ∙ (ap₂ plus (entered a _) (sum_none M (tests b) _) ∙ (unit_right M _ ∙ sym (P.by_chain a b c)))
    entered (star a b) c = sum_append M (firsts a) (firsts b) _ _ (firsts_fit a _)
        ∙ (ap₂ plus (entered a _) (entered b _) ∙ sym (P.by_star a b c))

    -- a row over the first part, or over the second, alone
    sum_left : (a b : Segment) (row : List Bool) (xs ys : List V) → length xs ≡ length (tests a) → length row ≡ length (tests a)
        → sum plus none (row ++ none_of b) (xs ++ ys) ≡ sum plus none row xs
    sum_left a b row xs ys l m = sum_append M row (none_of b) xs ys (m ∙ sym l) ∙ (ap (plus _) (sum_none M (tests b) ys) ∙ unit_right M _)

    sum_right : (a : Segment) (row : List Bool) (xs ys : List V) → length xs ≡ length (tests a)
        → sum plus none (none_of a ++ row) (xs ++ ys) ≡ sum plus none row ys
    sum_right a row xs ys l = sum_append M (none_of a) row xs ys (none_length a ∙ sym l) ∙ (ap (λ x. plus x (sum plus none row ys)) (sum_none M (tests a) xs) ∙ M.unit _)

    sum_one : (e : Bool) (b : Segment) (c : C) → sum plus none (cond e (firsts b) (none_of b)) (worths b c) ≡ cond e (worth b c) none
    sum_one true b c = entered b c
    sum_one false b c = sum_none M (tests b) _

    plus_one : (e : Bool) (x y : V) → plus (cond e x none) (cond e y none) ≡ cond e (plus x y) none
    plus_one true x y = refl
    plus_one false x y = M.unit none

    second : (a b : Segment) (xs : List V) (c : C) (within : V) → length xs ≡ length (tests a)
        → zipped (λ e row. plus (sum plus none row (xs ++ worths b c)) (cond e within none)) (endings b) (map (λ row. none_of a ++ row) (followers b))
        ≡ zipped (λ e row. plus (sum plus none row (worths b c)) (cond e within none)) (endings b) (followers b)
    second a b xs c within l = zipped_map _ _ _ (length (tests b))
        (λ e row m. ap (λ x. plus x (cond e within none)) (sum_right a row xs (worths b c) l)) (endings b) (followers b) (followers_even b)

    -- two parts, the tests of the first followed by what f adds
    after_first : (a b : Segment) (c d : C) (on within : V) (f : Bool → List Bool → List Bool)
        → ((e : Bool) (row : List Bool) → length row ≡ length (tests a)
        → sum plus none (f e row) (worths a c ++ worths b d) ≡ plus (sum plus none row (worths a c)) (cond e on none))
        → zipped (λ e row. plus (sum plus none row (worths a c)) (cond e on none)) (endings a) (followers a) ≡ follows a c on
        → zipped (λ e row. plus (sum plus none row (worths b d)) (cond e within none)) (endings b) (followers b) ≡ follows b d within
        → zipped (λ e row. plus (sum plus none row (worths a c ++ worths b d)) (cond e within none)) (none_of a ++ endings b)
        (with_each f (endings a) (followers a) ++ map (λ row. none_of a ++ row) (followers b))
        ≡ follows a c on ++ follows b d within
    after_first a b c d on within f adds first last =
        zipped_append _ (none_of a) (endings b) _ _ (none_length a ∙ sym (length_each f (endings a) (followers a) (ends_rows a) ∙ followers_length a))
        ∙ ap₂ ◌++◌ (zipped_each _ _ _ (length (tests a)) (λ e row m. unit_right M _ ∙ adds e row m)
        (tests a) (endings a) (followers a) (sym (endings_length a)) (followers_even a) ∙ first)
        (second a b (worths a c) d within (worths_length a c) ∙ last)

    -- the followers of a test, and where it is ending what comes after, sum up to what may follow it
    continued : (a : Segment) (c : C) (within : V)
        → zipped (λ e row. plus (sum plus none row (worths a c)) (cond e within none)) (endings a) (followers a) ≡ follows a c within
    unfolding endings followers worths follows
    continued (single t) c within = ap (λ x. x ∷ []) (ap (λ x. plus x within) (M.unit none) ∙ M.unit within)
    continued (either a b) c within =
        let xs : List V = worths a (left (either a b) c) in
        zipped_append _ (endings a) (endings b) _ _ (ends_rows a ∙ sym (length-map (followers a) _))
        ∙ ap₂ ◌++◌ (zipped_map _ _ _ (length (tests a)) (λ e row m. ap (λ x. plus x (cond e within none))
        (sum_left a b row xs _ (worths_length a _) m)) (endings a) (followers a) (followers_even a) ∙ continued a _ within)
        (second a b xs (right (either a b) c) within (worths_length a _) ∙ continued b _ within)
    continued (chain a b) c within =
        let d : C = left (chain a b) c in
        after_first a b d (right (chain a b) c) _ within _ (λ e row m. sum_append M row _ (worths a d) _ (m ∙ sym (worths_length a d))
        ∙ ap (plus _) (sum_one e b _)) (continued a d _) (continued b _ within)
    continued (star a b) c within =
        let d : C = left (star a b) c in
        after_first a b d (right (star a b) c) _ within _ (λ e row m. sum_append M (either_of row (cond e (firsts a) (none_of a))) _ (worths a d) _
        (length_either row _ (m ∙ sym (one_length e a)) ∙ (m ∙ sym (worths_length a d)))
        ∙ (ap₂ plus (sum_either M row _ (worths a d) ∙ ap (plus _) (sum_one e a d)) (sum_one e b _)
        ∙ (M.assoc _ _ _ ∙ ap (plus _) (plus_one e _ _ ∙ ap (λ x. cond e x none) (sym (P.by_star a b c))))))
        (continued a d _) (continued b _ within)

    -- the followers of each test sum up to what may follow it within the segment
    pub followed : (a : Segment) (c : C) → map (λ row. sum plus none row (worths a c)) (followers a) ≡ follows a c none
    followed a c = sym (zipped_rows (λ e row. plus (sum plus none row (worths a c)) (cond e none none)) _ alone (endings a) (followers a) (ends_rows a))
        ∙ continued a c none
      where
        alone : (e : Bool) (row : List Bool) → plus (sum plus none row (worths a c)) (cond e none none) ≡ sum plus none row (worths a c)
        alone true row = unit_right M _
        alone false row = unit_right M _

-- which tests have a cell: those that something may follow, where inside says that something may follow the whole
abbrev pub celled : Segment → Bool → List Bool
celled a inside = follows {C = Unit {0}} ◌||◌ false (λ b c. true) (λ b c. c) (λ b c. c) a (record {}) inside

-- the sum of truths
either_true : Summing ◌||◌ false
either_true = record { assoc = or_assoc; comm = or_comm; idem = or_self; unit = λ x. refl }

abbrev AllTrue : List Bool → Type 0
AllTrue [] = Unit {0}
AllTrue (x ∷ xs) = (x ≡ true) × AllTrue xs

all_append : (xs ys : List Bool) → AllTrue xs → AllTrue ys → AllTrue (xs ++ ys)
all_append [] ys v w = w
all_append (x ∷ xs) ys v w = (v.0, all_append xs ys v.1 w)

abbrev truths : Segment → List Bool
truths a = worths {C = Unit {0}} ◌||◌ false (λ b c. true) (λ b c. c) (λ b c. c) a (record {})

truths_all : (a : Segment) → AllTrue (truths a)
unfolding worths
truths_all (single t) = (refl, record {})
truths_all (either a b) = all_append (truths a) (truths b) (truths_all a) (truths_all b)
truths_all (chain a b) = all_append (truths a) (truths b) (truths_all a) (truths_all b)
truths_all (star a b) = all_append (truths a) (truths b) (truths_all a) (truths_all b)

sum_true : (row xs : List Bool) → length row ≡ length xs → AllTrue xs → some_set row ≡ sum ◌||◌ false row xs
sum_true [] xs l v = refl
sum_true (p ∷ row) [] l v = absurd (omega arith)
sum_true (true ∷ row) (x ∷ xs) l v = ap (λ y. y || sum ◌||◌ false row xs) (sym v.0)
sum_true (false ∷ row) (x ∷ xs) l v = sum_true row xs (omega arith) v.1

map_even : {V : Type 0} (f g : List Bool → V) (m : ℕ) → ((row : List Bool) → length row ≡ m → f row ≡ g row)
    → (rows : List (List Bool)) → Even m rows → map f rows ≡ map g rows
map_even f g m same [] v = refl
map_even f g m same (row ∷ rows) v = ap₂ (λ x r. x ∷ r) (same row v.0) (map_even f g m same rows v.1)

pub with_cell_celled : (a : Segment) → with_cell a ≡ celled a false
with_cell_celled a = map_even _ _ (length (tests a))
    (λ row l. sum_true row (truths a) (l ∙ sym (worths_length _ _ _ _ _ a _)) (truths_all a)) (followers a) (followers_even a)
    ∙ followed _ _ _ _ _ either_true (record { by_either = λ a b c. refl; by_chain = λ a b c. refl; by_star = λ a b c. refl }) a _
