-- A rule and its cells before a letter, as the code goes through them: `!` driven inward on the way. Assumes nothing.
use Rattle.std.proofs.Common.{◌≡◌, ℕ, suc, ◌+◌, ◌-◌, ◌<◌, ◌≤◌, Bool, true, false, cond, not, ◌⊎◌, List, ◌∷◌, ◌++◌, length, get_or, sym, refl, ap, ◌∙◌, subst, ap₂, inl, inr, add-one, arith}
use Rattle.semantics.specs.Inward.{flipped, inward}
use Rattle.cells.specs.Reading.{blended, kind_under, meets_parts}
use Rattle.cells.specs.Step.{test_cells, inner_cells, wants_every, next_before, tests_before, before, befores}
use Rattle.cells.specs.Walk.{cells_in, enter, follow_at, Walked}
use Rattle.cells.proofs.Counts.{inward_cells}
use Rattle.cells.proofs.Tables.{tests_long, befores_length}
use Rattle.rule.specs.declared.leaf.Kind.{Kind}
use Rattle.rule.specs.declared.leaf.Test.{Test}
use Rattle.rule.specs.Tree.{Segment, Rule, letter, negated, both, any, next, until, release}
use Rattle.scale.specs.Laws.{Algebra}
use Rattle.std.proofs.lemmas.Grind.{get_or_head, get_or_tail}
use Rattle.std.proofs.lemmas.List.{get_or_append_left, get_or-append_right}

-- reading a list by numbers that start at base
module _ {X : Type 0} (d : X) where
  pub read_later : (x : X) (xs : List X) (base k : ℕ) → base < k → get_or (x ∷ xs) (k - base) d ≡ get_or xs (k - (base + 1)) d
  read_later x xs base k h = get_or_tail x xs (k - base) d (omega arith)
      ∙ (let z : k - base - 1 ≡ k - (base + 1) = omega arith in ap (λ i. get_or xs i d) z)

  pub read_front : (xs ys : List X) (m base k : ℕ) → length xs ≡ m → base ≤ k → k < base + m → get_or (xs ++ ys) (k - base) d ≡ get_or xs (k - base) d
  read_front xs ys m base k e l h = get_or_append_left xs ys d (k - base) (omega arith)

  pub read_back : (xs ys : List X) (m base k : ℕ) → length xs ≡ m → base + m ≤ k → get_or (xs ++ ys) (k - base) d ≡ get_or ys (k - (base + m)) d
  read_back xs ys m base k e l = get_or-append_right xs ys m (k - base) d e (omega arith)
      ∙ (let z : k - base - m ≡ k - (base + m) = omega arith in ap (λ i. get_or ys i d) z)

module _ {S : Type 0} {A : Algebra S} (W : Walked A) (value : Test → S) (after : ℕ → S) where
  abbrev B : Bool → Rule → ℕ → S
  B odd r base = before A value after (inward odd r) base

  abbrev Bs : Bool → Rule → ℕ → List S
  Bs odd r base = befores A value after (inward odd r) base

  abbrev next_at : Bool → Kind → Segment → ℕ → ℕ → S
  next_at odd k a op base = enter A value after op (wants_every (kind_under odd k)) a false true base

  next_walked : (odd : Bool) (k : Kind) (a : Segment) (op base base' : ℕ) → base ≡ base'
      → next_before A value after (kind_under odd k) a op base ≡ next_at odd k a op base'
  next_walked odd k a op base base' e = sym (W.entered value after op (kind_under odd k) a base) ∙ ap (next_at odd k a op) e

  -- the second of two rules begins behind the first
  second_at : (odd : Bool) (r s : Rule) (base : ℕ) → B odd s (base + inner_cells (inward odd r)) ≡ B odd s (base + inner_cells r)
  second_at odd r s base = ap (λ n. B odd s (base + n)) (inward_cells odd r)

  goal_base : (odd : Bool) (r : Rule) (a : Segment) (base : ℕ)
      → suc base + inner_cells (inward odd r) + test_cells a ≡ base + 1 + inner_cells r + cells_in a false
  goal_base odd r a base = omega (arith, inward_cells odd r, W.counted a)

  tests_base : (odd : Bool) (r : Rule) (base : ℕ) → suc base + inner_cells (inward odd r) ≡ base + 1 + inner_cells r
  tests_base odd r base = omega (arith, inward_cells odd r)

  pub letter_is : (odd : Bool) (t : Test) (base : ℕ) → B odd (letter t) base ≡ value (cond odd (flipped t) t)
  unfolding before inward
  letter_is false t base = refl
  letter_is true t base = refl

  pub negated_is : (odd : Bool) (r : Rule) (base : ℕ) → B odd (negated r) base ≡ B (not odd) r base
  unfolding inward
  negated_is false r base = refl
  negated_is true r base = refl

  pub both_is : (odd : Bool) (r s : Rule) (base : ℕ) → B odd (both r s) base ≡ blended A (not odd) (B odd r base) (B odd s (base + inner_cells r))
  unfolding before inward
  both_is false r s base = ap (A.meet _) (second_at false r s base)
  both_is true r s base = ap (A.join _) (second_at true r s base)

  pub any_is : (odd : Bool) (r s : Rule) (base : ℕ) → B odd (any r s) base ≡ blended A odd (B odd r base) (B odd s (base + inner_cells r))
  unfolding before inward
  any_is false r s base = ap (A.join _) (second_at false r s base)
  any_is true r s base = ap (A.meet _) (second_at true r s base)

  pub next_is : (odd : Bool) (k : Kind) (a : Segment) (r : Rule) (base : ℕ) → B odd (next k a r) base ≡ next_at odd k a base (base + 1)
  unfolding before inward
  next_is false k a r base = next_walked false k a base _ _ (sym (add-one base))
  next_is true k a r base = next_walked true k a base _ _ (sym (add-one base))

  abbrev turn : Bool → Bool → Kind → Rule → Segment → Rule → ℕ → S
  turn meets odd k r a s base =
      blended A meets (B odd s (base + 1 + inner_cells r + cells_in a false))
      (blended A (not meets) (B odd r (base + 1)) (next_at odd k a base (base + 1 + inner_cells r)))

  pub until_is : (odd : Bool) (k : Kind) (r : Rule) (a : Segment) (s : Rule) (base : ℕ) → B odd (until k r a s) base ≡ turn odd odd k r a s base
  unfolding before inward
  until_is false k r a s base = ap₂ A.join (ap (B false s) (goal_base false r a base))
      (ap₂ A.meet (ap (B false r) (sym (add-one base))) (next_walked false k a base _ _ (tests_base false r base)))
  until_is true k r a s base = ap₂ A.meet (ap (B true s) (goal_base true r a base))
      (ap₂ A.join (ap (B true r) (sym (add-one base))) (next_walked true k a base _ _ (tests_base true r base)))

  pub release_is : (odd : Bool) (k : Kind) (r : Rule) (a : Segment) (s : Rule) (base : ℕ) → B odd (release k r a s) base ≡ turn (not odd) odd k r a s base
  unfolding before inward
  release_is false k r a s base = ap₂ A.meet (ap (B false s) (goal_base false r a base))
      (ap₂ A.join (ap (B false r) (sym (add-one base))) (next_walked false k a base _ _ (tests_base false r base)))
  release_is true k r a s base = ap₂ A.join (ap (B true s) (goal_base true r a base))
      (ap₂ A.meet (ap (B true r) (sym (add-one base))) (next_walked true k a base _ _ (tests_base true r base)))

  pub pair_is : (odd : Bool) (r s whole : Rule) (base : ℕ) → (whole ≡ both r s) ⊎ (whole ≡ any r s)
      → B odd whole base ≡ blended A (meets_parts odd whole) (B odd r base) (B odd s (base + inner_cells r))
  pair_is odd r s whole base (inl e) = rw e (both_is odd r s base)
  pair_is odd r s whole base (inr e) = rw e (any_is odd r s base)

  pub turn_is : (odd : Bool) (k : Kind) (r : Rule) (a : Segment) (s whole : Rule) (base : ℕ) → (whole ≡ until k r a s) ⊎ (whole ≡ release k r a s)
      → B odd whole base ≡ turn (meets_parts odd whole) odd k r a s base
  turn_is odd k r a s whole base (inl e) = rw e (until_is odd k r a s base)
  turn_is odd k r a s whole base (inr e) = rw e (release_is odd k r a s base)

  -- a cell of the list, numbered from base on
  abbrev cell_in : List S → ℕ → ℕ → S
  cell_in xs base k = get_or xs (k - base) A.worst

  tests_length : (k : Kind) (a : Segment) (op base : ℕ) → length (tests_before A value after k a op base) ≡ cells_in a false
  tests_length k a op base = tests_long A value after k a op base ∙ sym (W.counted a)

  pub inner_length : (odd : Bool) (r : Rule) (base : ℕ) → length (Bs odd r base) ≡ inner_cells r
  inner_length odd r base = befores_length A value after (inward odd r) base ∙ inward_cells odd r

  pub letter_cell : (odd : Bool) (t : Test) (base k : ℕ) → cell_in (Bs odd (letter t) base) base k ≡ A.worst
  unfolding befores inward
  letter_cell false t base k = refl
  letter_cell true t base k = refl

  pub negated_cell : (odd : Bool) (r : Rule) (base k : ℕ) → cell_in (Bs odd (negated r) base) base k ≡ cell_in (Bs (not odd) r base) base k
  unfolding inward
  negated_cell false r base k = refl
  negated_cell true r base k = refl

  -- the cells of two rules, the second's from middle on
  pub record Paired (odd : Bool) (r s whole : Rule) (base cell middle : ℕ) : Type 0 where
    pub in_first : base ≤ cell → cell < middle → cell_in (Bs odd whole base) base cell ≡ cell_in (Bs odd r base) base cell
    pub in_second : middle ≤ cell → cell_in (Bs odd whole base) base cell ≡ cell_in (Bs odd s middle) middle cell

  paired : (odd : Bool) (r s whole : Rule) (base cell middle : ℕ) → middle ≡ base + inner_cells r
      → Bs odd whole base ≡ Bs odd r base ++ Bs odd s (base + inner_cells (inward odd r)) → Paired odd r s whole base cell middle
  paired odd r s whole base cell middle m e =
      let at_middle : base + inner_cells (inward odd r) ≡ middle = omega (arith, inward_cells odd r) in
      let there = ap (λ xs. cell_in xs base cell) (e ∙ ap (λ n. Bs odd r base ++ Bs odd s n) at_middle) in
      record {
        in_first = λ l h. there ∙ read_front A.worst _ _ (inner_cells r) base cell (inner_length odd r base) l (omega arith);
        in_second = λ l. there ∙ (read_back A.worst _ _ (inner_cells r) base cell (inner_length odd r base) (omega arith)
            ∙ ap (λ b. cell_in (Bs odd s middle) b cell) (sym m));
      }

  both_cells : (odd : Bool) (r s : Rule) (base cell middle : ℕ) → middle ≡ base + inner_cells r → Paired odd r s (both r s) base cell middle
  unfolding befores inward
  both_cells false r s base cell middle m = paired false r s (both r s) base cell middle m refl
  both_cells true r s base cell middle m = paired true r s (both r s) base cell middle m refl

  any_cells : (odd : Bool) (r s : Rule) (base cell middle : ℕ) → middle ≡ base + inner_cells r → Paired odd r s (any r s) base cell middle
  unfolding befores inward
  any_cells false r s base cell middle m = paired false r s (any r s) base cell middle m refl
  any_cells true r s base cell middle m = paired true r s (any r s) base cell middle m refl

  pub pair_cells : (odd : Bool) (r s whole : Rule) (base cell middle : ℕ) → (whole ≡ both r s) ⊎ (whole ≡ any r s) → middle ≡ base + inner_cells r
      → Paired odd r s whole base cell middle
  pair_cells odd r s whole base cell middle (inl e) m = subst (λ w. Paired odd r s w base cell middle) (sym e) (both_cells odd r s base cell middle m)
  pair_cells odd r s whole base cell middle (inr e) m = subst (λ w. Paired odd r s w base cell middle) (sym e) (any_cells odd r s base cell middle m)

  -- a cell of a segment's tests
  abbrev test_at : Bool → Kind → Segment → ℕ → ℕ → ℕ → S
  test_at odd k a op base cell = follow_at A value after op (wants_every (kind_under odd k)) a A.worst false true base cell

  test_walked : (odd : Bool) (k : Kind) (a : Segment) (op base cell : ℕ) → base ≤ cell → cell < base + cells_in a false
      → cell_in (tests_before A value after (kind_under odd k) a op base) base cell ≡ test_at odd k a op base cell
  test_walked odd k a op base cell l h =
      let there : base + (cell - base) ≡ cell = omega arith in
      sym (W.followed value after op (kind_under odd k) a base (cell - base) (omega (arith, W.counted a))) ∙ ap (test_at odd k a op base) there

  -- the cells of a next, those of the rule after it from rest on
  pub record Nexts (odd : Bool) (k : Kind) (a : Segment) (r whole : Rule) (base cell rest : ℕ) : Type 0 where
    pub at_operator : cell ≡ base → cell_in (Bs odd whole base) base cell ≡ B odd r rest
    pub in_tests : base < cell → cell < rest → cell_in (Bs odd whole base) base cell ≡ test_at odd k a base (base + 1) cell
    pub in_rest : rest ≤ cell → cell_in (Bs odd whole base) base cell ≡ cell_in (Bs odd r rest) rest cell

  nexts : (odd : Bool) (k : Kind) (a : Segment) (r whole : Rule) (base cell rest : ℕ) → rest ≡ base + 1 + cells_in a false
      → Bs odd whole base ≡ B odd r rest ∷ (tests_before A value after (kind_under odd k) a base (base + 1) ++ Bs odd r rest)
      → Nexts odd k a r whole base cell rest
  nexts odd k a r whole base cell rest e here =
      let there = ap (λ xs. cell_in xs base cell) here in
      record {
        at_operator = λ z. there ∙ get_or_head _ _ (cell - base) A.worst (omega arith);
        in_tests = λ l h. there ∙ (read_later A.worst _ _ base cell l
            ∙ (read_front A.worst _ _ (cells_in a false) (base + 1) cell (tests_length _ a base (base + 1)) (omega arith) (omega arith)
            ∙ test_walked odd k a base (base + 1) cell (omega arith) (omega arith)));
        in_rest = λ l. there ∙ (read_later A.worst _ _ base cell (omega arith)
            ∙ (read_back A.worst _ _ (cells_in a false) (base + 1) cell (tests_length _ a base (base + 1)) (omega arith)
            ∙ ap (λ b. cell_in (Bs odd r rest) b cell) (sym e)));
      }

  next_list : (odd : Bool) (k : Kind) (a : Segment) (r : Rule) (base rest : ℕ) → rest ≡ base + 1 + cells_in a false
      → Bs odd (next k a r) base ≡ B odd r rest ∷ (tests_before A value after (kind_under odd k) a base (base + 1) ++ Bs odd r rest)
  unfolding befores inward
  next_list false k a r base rest e =
      let at_rest : suc base + test_cells a ≡ rest = omega (arith, W.counted a) in
      ap₂ (λ m n. B false r n ∷ (tests_before A value after k a base m ++ Bs false r n)) (sym (add-one base)) at_rest
  next_list true k a r base rest e =
      let at_rest : suc base + test_cells a ≡ rest = omega (arith, W.counted a) in
      ap₂ (λ m n. B true r n ∷ (tests_before A value after (kind_under true k) a base m ++ Bs true r n)) (sym (add-one base)) at_rest

  pub next_cells : (odd : Bool) (k : Kind) (a : Segment) (r whole : Rule) (base cell rest : ℕ) → whole ≡ next k a r → rest ≡ base + 1 + cells_in a false
      → Nexts odd k a r whole base cell rest
  next_cells odd k a r whole base cell rest w e =
      nexts odd k a r whole base cell rest e (ap (λ x. Bs odd x base) w ∙ next_list odd k a r base rest e)

  -- the cells of a U or an R: those of the tests from tests on, those of the goal from rest on
  pub record Turns (odd : Bool) (k : Kind) (r : Rule) (a : Segment) (s whole : Rule) (base cell tests rest : ℕ) : Type 0 where
    pub at_operator : cell ≡ base → cell_in (Bs odd whole base) base cell ≡ B odd whole base
    pub in_hold : base < cell → cell < tests → cell_in (Bs odd whole base) base cell ≡ cell_in (Bs odd r (base + 1)) (base + 1) cell
    pub in_tests : tests ≤ cell → cell < rest → cell_in (Bs odd whole base) base cell ≡ test_at odd k a base tests cell
    pub in_goal : rest ≤ cell → cell_in (Bs odd whole base) base cell ≡ cell_in (Bs odd s rest) rest cell

  turns : (odd : Bool) (k : Kind) (r : Rule) (a : Segment) (s whole : Rule) (base cell tests rest : ℕ)
      → tests ≡ base + 1 + inner_cells r → rest ≡ tests + cells_in a false
      → Bs odd whole base
      ≡ B odd whole base ∷ (Bs odd r (base + 1) ++ (tests_before A value after (kind_under odd k) a base tests ++ Bs odd s rest))
      → Turns odd k r a s whole base cell tests rest
  turns odd k r a s whole base cell tests rest t e here =
      let there = ap (λ xs. cell_in xs base cell) here in
      let later : (l : base < cell) → cell_in (Bs odd whole base) base cell
      ≡ cell_in (Bs odd r (base + 1) ++ (tests_before A value after (kind_under odd k) a base tests ++ Bs odd s rest)) (base + 1) cell =
      λ l. there ∙ read_later A.worst _ _ base cell l in
      let behind : (l : tests ≤ cell) → cell_in (Bs odd whole base) base cell
      ≡ cell_in (tests_before A value after (kind_under odd k) a base tests ++ Bs odd s rest) tests cell =
      λ l. later (omega arith) ∙ (read_back A.worst _ _ (inner_cells r) (base + 1) cell (inner_length odd r (base + 1)) (omega arith)
      ∙ ap (λ b. cell_in (tests_before A value after (kind_under odd k) a base tests ++ Bs odd s rest) b cell) (sym t)) in
      record {
        at_operator = λ z. there ∙ get_or_head _ _ (cell - base) A.worst (omega arith);
        in_hold = λ l h. later l ∙ read_front A.worst _ _ (inner_cells r) (base + 1) cell (inner_length odd r (base + 1)) (omega arith) (omega arith);
        in_tests = λ l h. behind l ∙ (read_front A.worst _ _ (cells_in a false) tests cell (tests_length _ a base tests) l (omega arith)
            ∙ test_walked odd k a base tests cell l (omega arith));
        in_goal = λ l. behind (omega arith) ∙ (read_back A.worst _ _ (cells_in a false) tests cell (tests_length _ a base tests) (omega arith)
            ∙ ap (λ b. cell_in (Bs odd s rest) b cell) (sym e));
      }

  -- the bases of the parts, as the definition and the code write them
  rebased : (odd : Bool) (k : Kind) (r : Rule) (a : Segment) (s : Rule) (x : S) (base tests rest : ℕ)
      → tests ≡ base + 1 + inner_cells r → rest ≡ tests + cells_in a false
      → x ∷ (Bs odd r (suc base) ++ (tests_before A value after (kind_under odd k) a base (suc base + inner_cells (inward odd r))
      ++ Bs odd s (suc base + inner_cells (inward odd r) + test_cells a)))
      ≡ x ∷ (Bs odd r (base + 1) ++ (tests_before A value after (kind_under odd k) a base tests ++ Bs odd s rest))
  rebased odd k r a s x base tests rest t e =
      let at_tests : suc base + inner_cells (inward odd r) ≡ tests = omega (arith, inward_cells odd r) in
      let at_rest : suc base + inner_cells (inward odd r) + test_cells a ≡ rest = omega (arith, inward_cells odd r, W.counted a) in
      ap (λ xs. x ∷ xs) (ap₂ ◌++◌ (ap (Bs odd r) (sym (add-one base)))
      (ap₂ ◌++◌ (ap (tests_before A value after (kind_under odd k) a base) at_tests) (ap (Bs odd s) at_rest)))

  until_cells : (odd : Bool) (k : Kind) (r : Rule) (a : Segment) (s : Rule) (base cell tests rest : ℕ)
      → tests ≡ base + 1 + inner_cells r → rest ≡ tests + cells_in a false → Turns odd k r a s (until k r a s) base cell tests rest
  unfolding befores inward
  until_cells false k r a s base cell tests rest t e =
      turns false k r a s (until k r a s) base cell tests rest t e (rebased false k r a s _ base tests rest t e)
  until_cells true k r a s base cell tests rest t e =
      turns true k r a s (until k r a s) base cell tests rest t e (rebased true k r a s _ base tests rest t e)

  release_cells : (odd : Bool) (k : Kind) (r : Rule) (a : Segment) (s : Rule) (base cell tests rest : ℕ)
      → tests ≡ base + 1 + inner_cells r → rest ≡ tests + cells_in a false → Turns odd k r a s (release k r a s) base cell tests rest
  unfolding befores inward
  release_cells false k r a s base cell tests rest t e =
      turns false k r a s (release k r a s) base cell tests rest t e (rebased false k r a s _ base tests rest t e)
  release_cells true k r a s base cell tests rest t e =
      turns true k r a s (release k r a s) base cell tests rest t e (rebased true k r a s _ base tests rest t e)

  pub turn_cells : (odd : Bool) (k : Kind) (r : Rule) (a : Segment) (s whole : Rule) (base cell tests rest : ℕ)
      → (whole ≡ until k r a s) ⊎ (whole ≡ release k r a s) → tests ≡ base + 1 + inner_cells r → rest ≡ tests + cells_in a false
      → Turns odd k r a s whole base cell tests rest
  turn_cells odd k r a s whole base cell tests rest (inl w) t e =
      subst (λ x. Turns odd k r a s x base cell tests rest) (sym w) (until_cells odd k r a s base cell tests rest t e)
  turn_cells odd k r a s whole base cell tests rest (inr w) t e =
      subst (λ x. Turns odd k r a s x base cell tests rest) (sym w) (release_cells odd k r a s base cell tests rest t e)
