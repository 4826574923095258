-- The step over a segment: a next, and the cell of each test, from the cells after the letter. Assumes nothing.
use Rattle.std.proofs.Common.{◌≡◌, ℕ, suc, ◌+◌, ◌<◌, Bool, false, List, [], ◌∷◌, ◌++◌, map, length, Some, None, Option, sym, refl, ap, ◌∙◌, ap₂, arith, length-append}
use mathlib.Core.List.{map-append}
use mathlib.Core.Path.{fun_ext}
use lib.ListN.{length-map}
use Rattle.cells.specs.Shape.{tests, none_of, firsts, endings, followers, with_cell}
use Rattle.cells.specs.Reading.{blended}
use Rattle.cells.specs.Step.{count_set, test_cells, wants_every, dealt, over_picked, next_before, followed_by, tests_before, marked}
use Rattle.cells.specs.Meaning.{along, follow, present, tests_mean}
use Rattle.cells.proofs.Sums.{sum}
use Rattle.cells.proofs.Lengths.{none_length, endings_length}
use Rattle.cells.proofs.Contexts.{worths, entered, followed}
use Rattle.cells.proofs.Along.{none, along_at, resumed, summing, along_end, along_test, parts, given, with_cell_is, kept, follows_kept}
use Rattle.cells.proofs.Picked.{hits, hits_append, picked_is}
use Rattle.rule.specs.declared.leaf.Kind.{Kind}
use Rattle.rule.specs.declared.leaf.Test.{Test}
use Rattle.rule.specs.Tree.{Segment, single, either, chain, star}
use Rattle.scale.specs.Laws.{Algebra, Lawful}

-- the cells from base on read the list
abbrev pub Reads : {S : Type 0} → (ℕ → S) → ℕ → List S → Type 0
Reads after base [] = Unit {0}
Reads after base (x ∷ xs) = (after base ≡ x) × Reads after (suc base) xs

module _ {S : Type 0} (A : Algebra S) (value : Test → ℕ → S) (n : ℕ) where
  follow_length : (every : Bool) (a : Segment) (then : ℕ → S) (within : Option (ℕ → S)) → length (follow A value n every a then within) ≡ length (tests a)
  unfolding tests follow
  follow_length every (single t) then within = refl
  follow_length every (either a b) then within = simp length-append (ap₂ ◌+◌ (follow_length every a then within) (follow_length every b then within))
  follow_length every (chain a b) then within = simp length-append (ap₂ ◌+◌ (follow_length every a _ _) (follow_length every b then within))
  follow_length every (star a b) then within = simp length-append (ap₂ ◌+◌ (follow_length every a _ _) (follow_length every b then within))

  present_length : (fs : List (Option (ℕ → S))) (i : ℕ) → length (present A value n fs i) ≡ count_set (map given fs)
  present_length [] i = refl
  present_length (None ∷ fs) i = present_length fs i
  present_length (Some f ∷ fs) i = ap suc (present_length fs i)

  module _ (i : ℕ) where
    abbrev at : Option (ℕ → S) → Option S
    at None = None
    at (Some f) = Some (f (suc i))

    module _ (after : ℕ → S) where
      dealt_is : (fs : List (Option (ℕ → S))) (base : ℕ) → Reads after base (present A value n fs (suc i))
          → dealt A (λ t. value t i) after (map given fs) base ≡ map at fs
      dealt_is [] base v = refl
      dealt_is (None ∷ fs) base v = ap (λ r. None ∷ r) (dealt_is fs base v)
      dealt_is (Some f ∷ fs) base v = ap₂ (λ x r. Some x ∷ r) v.0 (dealt_is fs (suc base) v.1)

module _ {S : Type 0} {A : Algebra S} (L : Lawful A) (value : Test → ℕ → S) (n : ℕ) where
  module _ (i : ℕ) (h : i < n) (after : ℕ → S) where
    module _ (every : Bool) where
      abbrev there : Segment → (ℕ → S) → List S
      there a then = worths (blended A every) (none A every) (along_at A value n every i) (resumed A value n every) (λ b f. f) a then

      abbrev told : S → List Test → List (Option (ℕ → S)) → List Bool → List S
      told op ts fs es = hits A (λ t. value t i) after every op ts (map (at A value n i) fs) es

      told_append : (op : S) (a b : Segment) (fs gs : List (Option (ℕ → S))) (es ds : List Bool) → length fs ≡ length (tests a) → length es ≡ length (tests a)
          → told op (tests a ++ tests b) (fs ++ gs) (es ++ ds) ≡ told op (tests a) fs es ++ told op (tests b) gs ds
      told_append op a b fs gs es ds p q = ap (λ cs. hits A (λ t. value t i) after every op (tests a ++ tests b) cs (es ++ ds)) (map-append _ fs gs)
          ∙ hits_append A (λ t. value t i) after every op (tests a) (tests b) _ _ es ds (length-map fs _ ∙ p) q

      told_inside : (op : S) (a b : Segment) (fs gs : List (Option (ℕ → S))) → length fs ≡ length (tests a)
          → told op (tests a ++ tests b) (fs ++ gs) (map (λ t. false) (tests a ++ tests b)) ≡ told op (tests a) fs (none_of a) ++ told op (tests b) gs (none_of b)
      told_inside op a b fs gs p = ap (told op (tests a ++ tests b) (fs ++ gs)) (map-append _ (tests a) (tests b))
          ∙ told_append op a b fs gs (none_of a) (none_of b) p (none_length a)

      -- tests that end nothing, followed by what comes after
      inside : (op : S) (a : Segment) (then : ℕ → S) → told op (tests a) (follow A value n every a then (Some then)) (none_of a) ≡ there a then
      unfolding tests follow worths
      inside op (single t) then = ap (λ x. x ∷ []) (sym (along_test L value n i h every t then))
      inside op (either a b) then = told_inside op a b _ _ (follow_length A value n every a _ _) ∙ ap₂ ◌++◌ (inside op a then) (inside op b then)
      inside op (chain a b) then = told_inside op a b _ _ (follow_length A value n every a _ _) ∙ ap₂ ◌++◌ (inside op a _) (inside op b then)
      inside op (star a b) then = told_inside op a b _ _ (follow_length A value n every a _ _) ∙ ap₂ ◌++◌ (inside op a _) (inside op b then)

      -- a whole segment, whose ending tests are followed by the operator's cell
      whole : (a : Segment) (then : ℕ → S) → told (then (suc i)) (tests a) (follow A value n every a then None) (endings a) ≡ there a then
      unfolding tests follow worths endings
      whole (single t) then = ap (λ x. x ∷ []) (sym (along_test L value n i h every t then))
      whole (either a b) then = told_append _ a b _ _ (endings a) (endings b) (follow_length A value n every a _ _) (endings_length a)
          ∙ ap₂ ◌++◌ (whole a then) (whole b then)
      whole (chain a b) then = told_append _ a b _ _ (none_of a) (endings b) (follow_length A value n every a _ _) (none_length a)
          ∙ ap₂ ◌++◌ (inside _ a _) (whole b then)
      whole (star a b) then = told_append _ a b _ _ (none_of a) (endings b) (follow_length A value n every a _ _) (none_length a)
          ∙ ap₂ ◌++◌ (inside _ a _) (whole b then)

    module _ (k : Kind) (a : Segment) (then : ℕ → S) (op base : ℕ) (own : after op ≡ then (suc i)) (reads : Reads after base (tests_mean A value n k a then (suc i))) where
      -- the step over a row of flags is the sum of what the row picks
      over_row : (row : List Bool) → over_picked A (λ t. value t i) after k a op base row
          ≡ sum (blended A (wants_every k)) (none A (wants_every k)) row (there (wants_every k) a then)
      over_row row = picked_is A (λ t. value t i) after (wants_every k) (after op) row (tests a) _ (endings a)
          ∙ ap (sum (blended A (wants_every k)) (none A (wants_every k)) row) (ap₂ (λ x cs. hits A (λ t. value t i) after (wants_every k) x (tests a) cs (endings a)) own dealt_cells ∙ whole (wants_every k) a then)
        where
          dealt_cells : dealt A (λ t. value t i) after (with_cell a) base ≡ map (at A value n i) (follow A value n (wants_every k) a then None)
          dealt_cells = ap (λ has. dealt A (λ t. value t i) after has base) (with_cell_is A value n (wants_every k) a then)
              ∙ dealt_is A value n i after (follow A value n (wants_every k) a then None) base reads

      pub next_is : next_before A (λ t. value t i) after k a op base ≡ along A value n (wants_every k) a then i
      next_is = over_row (firsts a)
          ∙ entered _ _ _ _ _ (summing L (wants_every k)) (parts L value n i h (wants_every k)) a then

      deal : (fs : List (Option (ℕ → S))) (rows : List (List Bool))
          → map (over_picked A (λ t. value t i) after k a op base) rows ≡ map (kept A value n (wants_every k) i) fs
          → followed_by A (λ t. value t i) after k a op base (map given fs) rows ≡ present A value n fs i
      deal [] rows e = refl
      deal (None ∷ fs) [] e = absurd (omega (arith, ap length e))
      deal (Some f ∷ fs) [] e = absurd (omega (arith, ap length e))
      deal (None ∷ fs) (row ∷ rows) e = deal fs rows (cc)
      deal (Some f ∷ fs) (row ∷ rows) e = ap₂ (λ x r. x ∷ r) (cc) (deal fs rows (cc))

      pub tests_are : tests_before A (λ t. value t i) after k a op base ≡ tests_mean A value n k a then i
      tests_are = ap (λ has. followed_by A (λ t. value t i) after k a op base has (followers a)) (with_cell_is A value n (wants_every k) a then)
          ∙ deal (follow A value n (wants_every k) a then None) (followers a) (ap (λ f. map f (followers a)) (fun_ext over_row)
          ∙ (followed _ _ _ _ _ (summing L (wants_every k)) (parts L value n i h (wants_every k)) a then ∙ follows_kept A value n (wants_every k) i a then None))

  -- a segment has as many cells as tests with a cell
  pub tests_length : (k : Kind) (a : Segment) (then : ℕ → S) (i : ℕ) → length (tests_mean A value n k a then i) ≡ test_cells a
  tests_length k a then i = present_length A value n (follow A value n (wants_every k) a then None) i ∙ sym (ap count_set (with_cell_is A value n (wants_every k) a then))

  -- at the log's end all that may follow a test is worth what comes after the segment
  module _ (mark : S) where
    abbrev Ends : Option (ℕ → S) → Type 0
    Ends None = Unit {0}
    Ends (Some f) = f n ≡ mark

    abbrev AllEnd : List (Option (ℕ → S)) → Type 0
    AllEnd [] = Unit {0}
    AllEnd (f ∷ fs) = Ends f × AllEnd fs

    ends_append : (fs gs : List (Option (ℕ → S))) → AllEnd fs → AllEnd gs → AllEnd (fs ++ gs)
    ends_append [] gs v w = w
    ends_append (f ∷ fs) gs v w = (v.0, ends_append fs gs v.1 w)

    follow_ends : (every : Bool) (a : Segment) (then : ℕ → S) (within : Option (ℕ → S)) → then n ≡ mark → Ends within → AllEnd (follow A value n every a then within)
    unfolding follow
    follow_ends every (single t) then within e w = (w, record {})
    follow_ends every (either a b) then within e w = ends_append _ _ (follow_ends every a then within e w) (follow_ends every b then within e w)
    follow_ends every (chain a b) then within e w =
        let on : along A value n every b then n ≡ mark = along_end L value n every b then ∙ e in
        ends_append _ _ (follow_ends every a _ _ on on) (follow_ends every b then within e w)
    follow_ends every (star a b) then within e w =
        let on : along A value n every (star a b) then n ≡ mark = along_end L value n every (star a b) then ∙ e in
        ends_append _ _ (follow_ends every a _ _ on on) (follow_ends every b then within e w)

    present_end : (fs : List (Option (ℕ → S))) → AllEnd fs → present A value n fs n ≡ marked mark (map given fs)
    present_end [] v = refl
    present_end (None ∷ fs) v = present_end fs v.1
    present_end (Some f ∷ fs) v = ap₂ (λ x r. x ∷ r) v.0 (present_end fs v.1)

    pub tests_end : (k : Kind) (a : Segment) (then : ℕ → S) → then n ≡ mark → tests_mean A value n k a then n ≡ marked mark (with_cell a)
    tests_end k a then e = present_end _ (follow_ends (wants_every k) a then None e (record {})) ∙ sym (ap (marked mark) (with_cell_is A value n (wants_every k) a then))
