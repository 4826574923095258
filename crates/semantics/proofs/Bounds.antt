-- What the bounded recursions of the position rules say with no bound, and folds over equal functions. Assumes nothing.
use Rattle.std.proofs.Common.{◌≡◌, ℕ, zero, suc, ◌+◌, ◌-◌, ◌<◌, ◌≤◌, Bool, cond, eqb, sym, refl, ap, ◌∙◌, ap₂, ⊎_elim, arith}
use Rattle.rule.specs.declared.leaf.Kind.{Kind}
use Rattle.rule.specs.declared.leaf.Kind.TheVariants.{SomeStrong, SomeWeak, EveryStrong, EveryWeak}
use Rattle.rule.specs.declared.leaf.Test.{Test}
use Rattle.rule.specs.Tree.{Segment, Rule}
use Rattle.scale.specs.Laws.{Algebra}
use Rattle.semantics.specs.Folds.{joined, met, join_over, meet_over}
use Rattle.semantics.specs.Marks.{Marks}
use Rattle.semantics.specs.Positions.{paths, repeats, matches, open_at, ended, next_of, until_from, release_from, worth}
use Rattle.semantics.specs.Equations.{Repeated, Unrolled}
use Rattle.std.proofs.lemmas.Bool.{cases_eq, eq-eqb, ne_eqb, cond-true, cond-false}

module _ {S : Type 0} (A : Algebra S) where
  joined_same : (first count : ℕ) (f g : ℕ → S) → ((k : ℕ) → first ≤ k → k < first + count → f k ≡ g k) → joined A first count f ≡ joined A first count g
  unfolding joined
  joined_same first zero f g h = refl
  joined_same first (suc count) f g h =
      ap₂ A.join (joined_same first count f g (λ k l m. h k l (omega arith))) (h (first + count) (omega arith) (omega arith))

  met_same : (first count : ℕ) (f g : ℕ → S) → ((k : ℕ) → first ≤ k → k < first + count → f k ≡ g k) → met A first count f ≡ met A first count g
  unfolding met
  met_same first zero f g h = refl
  met_same first (suc count) f g h =
      ap₂ A.meet (met_same first count f g (λ k l m. h k l (omega arith))) (h (first + count) (omega arith) (omega arith))

  -- a join, and a meet, looks at its function only in its range
  pub join_over_same : (low high : ℕ) (f g : ℕ → S) → ((k : ℕ) → low ≤ k → k < high → f k ≡ g k) → join_over A low high f ≡ join_over A low high g
  join_over_same low high f g h = joined_same low (high - low) f g (λ k l m. h k l (omega arith))

  pub meet_over_same : (low high : ℕ) (f g : ℕ → S) → ((k : ℕ) → low ≤ k → k < high → f k ≡ g k) → meet_over A low high f ≡ meet_over A low high g
  meet_over_same low high f g h = met_same low (high - low) f g (λ k l m. h k l (omega arith))

  -- over no position
  joined_none : (first count : ℕ) (f : ℕ → S) → count ≡ 0 → joined A first count f ≡ A.worst
  unfolding joined
  joined_none first zero f e = refl
  joined_none first (suc count) f e = absurd (omega arith)

  met_none : (first count : ℕ) (f : ℕ → S) → count ≡ 0 → met A first count f ≡ A.best
  unfolding met
  met_none first zero f e = refl
  met_none first (suc count) f e = absurd (omega arith)

  pub join_over_none : (low high : ℕ) (f : ℕ → S) → high ≤ low → join_over A low high f ≡ A.worst
  join_over_none low high f h = joined_none low (high - low) f (omega arith)

  pub meet_over_none : (low high : ℕ) (f : ℕ → S) → high ≤ low → meet_over A low high f ≡ A.best
  meet_over_none low high f h = met_none low (high - low) f (omega arith)

  module _ (m : ℕ → ℕ → S) where
    -- any bound of at least j - i gives the same
    pub paths_enough : (b c i j : ℕ) → j - i ≤ b → j - i ≤ c → paths A b m i j ≡ paths A c m i j
    unfolding paths
    paths_enough zero zero i j p q = refl
    paths_enough zero (suc c) i j p q = ap (cond (eqb i j) A.best) (sym (join_over_none (suc i) (suc j) _ (omega arith)))
    paths_enough (suc b) zero i j p q = ap (cond (eqb i j) A.best) (join_over_none (suc i) (suc j) _ (omega arith))
    paths_enough (suc b) (suc c) i j p q = ap (cond (eqb i j) A.best)
        (join_over_same (suc i) (suc j) _ _ (λ k l h. ap (A.meet (m i k)) (paths_enough b c k j (omega arith) (omega arith))))

    repeats_none : (i : ℕ) → repeats A m i i ≡ A.best
    unfolding paths
    repeats_none i = paths_enough (i - i) 0 i i (omega arith) (omega arith) ∙ cond-true _ _ _ (eq-eqb i i refl)

    repeats_more : (i j : ℕ) → i < j → repeats A m i j ≡ join_over A (suc i) (suc j) (λ k. A.meet (m i k) (repeats A m k j))
    unfolding paths
    repeats_more i j h = paths_enough (j - i) (suc (j - suc i)) i j (omega arith) (omega arith)
        ∙ (cond-false _ _ _ (ne_eqb i j (λ e. omega arith))
        ∙ join_over_same (suc i) (suc j) _ _ (λ k l g. ap (A.meet (m i k)) (paths_enough (j - suc i) (j - k) k j (omega arith) (omega arith))))

    -- no number of steps leads back
    pub repeats_back : (i j : ℕ) → j < i → repeats A m i j ≡ A.worst
    unfolding paths
    repeats_back i j h = paths_enough (j - i) 0 i j (omega arith) (omega arith) ∙ cond-false _ _ _ (ne_eqb i j (λ e. omega arith))

    pub repeated : Repeated A m
    repeated = record { none = repeats_none; more = repeats_more }

  module _ (value : Test → ℕ → S) (n : ℕ) where
    -- at the log's end the mark stands, whatever comes after
    pub ended_same : (f g : ℕ → S) (mark : S) (j : ℕ) → j ≤ n → (j < n → f j ≡ g j) → ended A value n f mark j ≡ ended A value n g mark j
    ended_same f g mark j l h = ⊎_elim (λ e. cond-true _ _ _ (eq-eqb j n e) ∙ sym (cond-true _ _ _ (eq-eqb j n e)))
        (λ ne. ap (cond (eqb j n) mark) (h (omega arith))) (cases_eq j n)

    -- a next looks only at the later positions of the log
    pub next_of_same : (k : Kind) (a : Segment) (f g : ℕ → S) (mark : S) (i : ℕ) → ((j : ℕ) → i < j → j < n → f j ≡ g j)
        → next_of A value n k a f mark i ≡ next_of A value n k a g mark i
    next_of_same k a f g mark i h = go k
      where
        some : join_over A (suc i) (suc n) (λ j. A.meet (matches A value a i j) (ended A value n f mark j))
            ≡ join_over A (suc i) (suc n) (λ j. A.meet (matches A value a i j) (ended A value n g mark j))
        some = join_over_same (suc i) (suc n) _ _ (λ j l m. ap (A.meet (matches A value a i j)) (ended_same f g mark j (omega arith) (h j l)))

        every : meet_over A (suc i) (suc n) (λ j. A.join (A.opposite (matches A value a i j)) (ended A value n f mark j))
            ≡ meet_over A (suc i) (suc n) (λ j. A.join (A.opposite (matches A value a i j)) (ended A value n g mark j))
        every = meet_over_same (suc i) (suc n) _ _ (λ j l m. ap (A.join (A.opposite (matches A value a i j))) (ended_same f g mark j (omega arith) (h j l)))

        go : (k : Kind) → next_of A value n k a f mark i ≡ next_of A value n k a g mark i
        go SomeStrong = ap (λ x. A.join x (A.meet (open_at A value n a i) mark)) some
        go SomeWeak = ap (λ x. A.join x (A.meet (open_at A value n a i) mark)) some
        go EveryStrong = ap (λ x. A.meet x (A.join (A.opposite (open_at A value n a i)) mark)) every
        go EveryWeak = ap (λ x. A.meet x (A.join (A.opposite (open_at A value n a i)) mark)) every

    module _ (k : Kind) (a : Segment) (hold goal : ℕ → S) (mark : S) where
      -- any bound of at least n - i gives the same
      pub until_enough : (b c i : ℕ) → i < n → n - i ≤ b → n - i ≤ c
          → until_from A value n b k a hold goal mark i ≡ until_from A value n c k a hold goal mark i
      unfolding until_from
      until_enough zero c i l p q = absurd (omega arith)
      until_enough (suc b) zero i l p q = absurd (omega arith)
      until_enough (suc b) (suc c) i l p q = ap (λ x. A.join (goal i) (A.meet (hold i) x))
          (next_of_same k a _ _ mark i (λ j s t. until_enough b c j t (omega arith) (omega arith)))

      pub release_enough : (b c i : ℕ) → i < n → n - i ≤ b → n - i ≤ c
          → release_from A value n b k a hold goal mark i ≡ release_from A value n c k a hold goal mark i
      unfolding release_from
      release_enough zero c i l p q = absurd (omega arith)
      release_enough (suc b) zero i l p q = absurd (omega arith)
      release_enough (suc b) (suc c) i l p q = ap (λ x. A.meet (goal i) (A.join (hold i) x))
          (next_of_same k a _ _ mark i (λ j s t. release_enough b c j t (omega arith) (omega arith)))

    pub unrolled : (mark : Marks S) (odd : Bool) (k : Kind) (hold : Rule) (a : Segment) (goal : Rule) (i : ℕ) → i < n
        → Unrolled A value n mark odd k hold a goal i
    unfolding worth until_from release_from
    unrolled mark odd k hold a goal i l =
        let h : ℕ → S = worth A value n mark odd hold in
        let g : ℕ → S = worth A value n mark odd goal in
        record {
          until_is = until_enough k a h g (mark odd k) (n - i) (suc (n - suc i)) i l (omega arith) (omega arith)
              ∙ ap (λ x. A.join (g i) (A.meet (h i) x))
              (next_of_same k a _ _ (mark odd k) i (λ j s t. until_enough k a h g (mark odd k) (n - suc i) (n - j) j t (omega arith) (omega arith)));
          release_is = release_enough k a h g (mark odd k) (n - i) (suc (n - suc i)) i l (omega arith) (omega arith)
              ∙ ap (λ x. A.meet (g i) (A.join (h i) x))
              (next_of_same k a _ _ (mark odd k) i (λ j s t. release_enough k a h g (mark odd k) (n - suc i) (n - j) j t (omega arith) (omega arith)));
        }
