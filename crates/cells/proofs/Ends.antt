-- The cells of a rule at the log's end, as the code goes through them: `!` driven inward on the way. Assumes nothing.
use Rattle.std.proofs.Common.{◌≡◌, ℕ, zero, suc, ◌+◌, ◌-◌, ◌<◌, ◌≤◌, Bool, true, false, not, ◌⊎◌, List, [], ◌∷◌, ◌++◌, length, get_or, sym, refl, ap, ◌∙◌, ap₂, inl, inr, arith, length-append}
use Rattle.semantics.specs.Inward.{inward}
use Rattle.cells.specs.Reading.{kind_under}
use Rattle.cells.specs.Shape.{with_cell}
use Rattle.cells.specs.Step.{count_set, inner_cells, marked, inner_marks}
use Rattle.cells.specs.Walk.{cells_in}
use Rattle.cells.proofs.Counts.{inward_cells}
use Rattle.cells.proofs.Walking.{counted}
use Rattle.rule.specs.declared.leaf.Kind.{Kind}
use Rattle.rule.specs.declared.leaf.Test.{Test}
use Rattle.rule.specs.Tree.{Segment, Rule, letter, negated, both, any, next, until, release}
use Rattle.std.proofs.lemmas.Grind.{get_or_tail}
use Rattle.std.proofs.lemmas.List.{get_or_append_left, get_or-append_right}

module _ {S : Type 0} (mark : Kind → S) (d : S) where
  marked_length : (m : S) (has : List Bool) → length (marked m has) ≡ count_set has
  marked_length m [] = refl
  marked_length m (true ∷ has) = ap suc (marked_length m has)
  marked_length m (false ∷ has) = marked_length m has

  marked_read : (m : S) (has : List Bool) (i : ℕ) → i < count_set has → get_or (marked m has) i d ≡ m
  marked_read m [] i h = absurd (omega arith)
  marked_read m (true ∷ has) zero h = refl
  marked_read m (true ∷ has) (suc i) h = marked_read m has i (omega arith)
  marked_read m (false ∷ has) i h = marked_read m has i h

  tests_length : (m : S) (a : Segment) → length (marked m (with_cell a)) ≡ cells_in a false
  tests_length m a = marked_length m (with_cell a) ∙ sym (counted a)

  tests_read : (m : S) (a : Segment) (i : ℕ) → i < cells_in a false → get_or (marked m (with_cell a)) i d ≡ m
  tests_read m a i h = marked_read m (with_cell a) i (omega (arith, counted a))

  pub marks_length : (r : Rule) → length (inner_marks mark r) ≡ inner_cells r
  unfolding inner_marks inner_cells
  marks_length (letter t) = refl
  marks_length (negated r) = marks_length r
  marks_length (both r s) = simp length-append (ap₂ ◌+◌ (marks_length r) (marks_length s))
  marks_length (any r s) = simp length-append (ap₂ ◌+◌ (marks_length r) (marks_length s))
  marks_length (next k a r) = simp length-append (ap suc (ap₂ ◌+◌ (marked_length (mark k) (with_cell a)) (marks_length r)))
  marks_length (until k r a s) = simp length-append
      (ap suc (ap₂ ◌+◌ (marks_length r) (ap₂ ◌+◌ (marked_length (mark k) (with_cell a)) (marks_length s))))
  marks_length (release k r a s) = simp length-append
      (ap suc (ap₂ ◌+◌ (marks_length r) (ap₂ ◌+◌ (marked_length (mark k) (with_cell a)) (marks_length s))))

  abbrev ends : Bool → Rule → List S
  ends odd r = inner_marks mark (inward odd r)

  ends_length : (odd : Bool) (r : Rule) → length (ends odd r) ≡ inner_cells r
  ends_length odd r = marks_length (inward odd r) ∙ inward_cells odd r

  pub letter_end : (odd : Bool) (t : Test) (cell : ℕ) → get_or (ends odd (letter t)) cell d ≡ d
  unfolding inner_marks inward
  letter_end false t cell = refl
  letter_end true t cell = refl

  pub negated_end : (odd : Bool) (r : Rule) (cell : ℕ) → get_or (ends odd (negated r)) cell d ≡ get_or (ends (not odd) r) cell d
  unfolding inward
  negated_end false r cell = refl
  negated_end true r cell = refl

  -- the cells of two rules, the first's so many
  pub record Paired (odd : Bool) (r s whole : Rule) (cell cells : ℕ) : Type 0 where
    pub in_first : cell < cells → get_or (ends odd whole) cell d ≡ get_or (ends odd r) cell d
    pub in_second : cells ≤ cell → get_or (ends odd whole) cell d ≡ get_or (ends odd s) (cell - cells) d

  paired : (odd : Bool) (r s whole : Rule) (cell cells : ℕ) → cells ≡ inner_cells r → ends odd whole ≡ ends odd r ++ ends odd s
      → Paired odd r s whole cell cells
  paired odd r s whole cell cells n e =
      let there = ap (λ xs. get_or xs cell d) e in
      record {
        in_first = λ h. there ∙ get_or_append_left (ends odd r) (ends odd s) d cell (omega (arith, ends_length odd r));
        in_second = λ l. there ∙ get_or-append_right (ends odd r) (ends odd s) cells cell d (ends_length odd r ∙ sym n) l;
      }

  pair_list : (odd : Bool) (r s whole : Rule) → (whole ≡ both r s) ⊎ (whole ≡ any r s) → ends odd whole ≡ ends odd r ++ ends odd s
  unfolding inner_marks inward
  pair_list false r s whole (inl w) = ap (ends false) w
  pair_list true r s whole (inl w) = ap (ends true) w
  pair_list false r s whole (inr w) = ap (ends false) w
  pair_list true r s whole (inr w) = ap (ends true) w

  pub pair_ends : (odd : Bool) (r s whole : Rule) (cell cells : ℕ) → (whole ≡ both r s) ⊎ (whole ≡ any r s) → cells ≡ inner_cells r
      → Paired odd r s whole cell cells
  pair_ends odd r s whole cell cells w n = paired odd r s whole cell cells n (pair_list odd r s whole w)

  -- the cells of a next, its own so many
  pub record Nexts (odd : Bool) (k : Kind) (r whole : Rule) (cell cells : ℕ) : Type 0 where
    pub in_own : cell < cells → get_or (ends odd whole) cell d ≡ mark (kind_under odd k)
    pub in_rest : cells ≤ cell → get_or (ends odd whole) cell d ≡ get_or (ends odd r) (cell - cells) d

  next_list : (odd : Bool) (k : Kind) (a : Segment) (r : Rule)
      → ends odd (next k a r) ≡ mark (kind_under odd k) ∷ (marked (mark (kind_under odd k)) (with_cell a) ++ ends odd r)
  unfolding inner_marks inward
  next_list false k a r = refl
  next_list true k a r = refl

  own_read : (m : S) (a : Segment) (ys : List S) (cell : ℕ) → cell < 1 + cells_in a false → get_or (m ∷ (marked m (with_cell a) ++ ys)) cell d ≡ m
  own_read m a ys zero h = refl
  own_read m a ys (suc i) h = get_or_append_left (marked m (with_cell a)) ys d i (omega (arith, tests_length m a)) ∙ tests_read m a i (omega arith)

  pub next_ends : (odd : Bool) (k : Kind) (a : Segment) (r whole : Rule) (cell cells : ℕ) → whole ≡ next k a r → cells ≡ 1 + cells_in a false
      → Nexts odd k r whole cell cells
  next_ends odd k a r whole cell cells w n =
      let m = mark (kind_under odd k) in
      let there = ap (λ xs. get_or xs cell d) (ap (ends odd) w ∙ next_list odd k a r) in
      let z : cell - 1 - cells_in a false ≡ cell - cells = omega arith in
      record {
        in_own = λ h. there ∙ own_read m a (ends odd r) cell (omega arith);
        in_rest = λ l. there ∙ (get_or_tail _ _ cell d (omega arith)
            ∙ (get_or-append_right (marked m (with_cell a)) (ends odd r) (cells_in a false) (cell - 1) d (tests_length m a) (omega arith)
            ∙ ap (λ i. get_or (ends odd r) i d) z));
      }

  -- the cells of a U or an R: those of the tests from tests on, those of the goal from rest on
  pub record Turns (odd : Bool) (k : Kind) (r s whole : Rule) (cell tests rest : ℕ) : Type 0 where
    pub at_operator : cell ≡ 0 → get_or (ends odd whole) cell d ≡ mark (kind_under odd k)
    pub in_hold : 0 < cell → cell < tests → get_or (ends odd whole) cell d ≡ get_or (ends odd r) (cell - 1) d
    pub in_tests : tests ≤ cell → cell < rest → get_or (ends odd whole) cell d ≡ mark (kind_under odd k)
    pub in_goal : rest ≤ cell → get_or (ends odd whole) cell d ≡ get_or (ends odd s) (cell - rest) d

  turn_list : (odd : Bool) (k : Kind) (r : Rule) (a : Segment) (s whole : Rule) → (whole ≡ until k r a s) ⊎ (whole ≡ release k r a s)
      → ends odd whole ≡ mark (kind_under odd k) ∷ (ends odd r ++ (marked (mark (kind_under odd k)) (with_cell a) ++ ends odd s))
  unfolding inner_marks inward
  turn_list false k r a s whole (inl w) = ap (ends false) w
  turn_list true k r a s whole (inl w) = ap (ends true) w
  turn_list false k r a s whole (inr w) = ap (ends false) w
  turn_list true k r a s whole (inr w) = ap (ends true) w

  pub turn_ends : (odd : Bool) (k : Kind) (r : Rule) (a : Segment) (s whole : Rule) (cell tests rest : ℕ)
      → (whole ≡ until k r a s) ⊎ (whole ≡ release k r a s) → tests ≡ 1 + inner_cells r → rest ≡ tests + cells_in a false
      → Turns odd k r s whole cell tests rest
  turn_ends odd k r a s whole cell tests rest w t n =
      let m = mark (kind_under odd k) in
      let there = ap (λ xs. get_or xs cell d) (turn_list odd k r a s whole w) in
      let later : 0 < cell → get_or (ends odd whole) cell d ≡ get_or (ends odd r ++ (marked m (with_cell a) ++ ends odd s)) (cell - 1) d =
      λ h. there ∙ get_or_tail _ _ cell d h in
      let behind : tests ≤ cell → get_or (ends odd whole) cell d ≡ get_or (marked m (with_cell a) ++ ends odd s) (cell - 1 - inner_cells r) d =
      λ l. later (omega arith) ∙ get_or-append_right (ends odd r) _ (inner_cells r) (cell - 1) d (ends_length odd r) (omega arith) in
      let z : cell - 1 - inner_cells r - cells_in a false ≡ cell - rest = omega arith in
      record {
        at_operator = λ e. there ∙ ap (λ i. get_or (m ∷ (ends odd r ++ (marked m (with_cell a) ++ ends odd s))) i d) e;
        in_hold = λ l h. later l ∙ get_or_append_left (ends odd r) _ d (cell - 1) (omega (arith, ends_length odd r));
        in_tests = λ l h. behind l ∙ (get_or_append_left (marked m (with_cell a)) _ d (cell - 1 - inner_cells r) (omega (arith, tests_length m a))
            ∙ tests_read m a (cell - 1 - inner_cells r) (omega arith));
        in_goal = λ l. behind (omega arith)
            ∙ (get_or-append_right (marked m (with_cell a)) (ends odd s) (cells_in a false) (cell - 1 - inner_cells r) d (tests_length m a) (omega arith)
            ∙ ap (λ i. get_or (ends odd s) i d) z);
      }
