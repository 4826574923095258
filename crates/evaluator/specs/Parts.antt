-- What the evaluator makes of the parts of a segment and of a rule, given what the parts are worth. Assumes nothing.
use Rattle.std.specs.Prelude.{ℕ, suc, cond, ◌==◌}
use Rattle.rule.specs.declared.leaf.Kind.{Kind}
use Rattle.rule.specs.declared.leaf.Kind.TheVariants.{SomeStrong, SomeWeak, EveryStrong, EveryWeak}
use Rattle.scale.specs.Laws.{Algebra}
use Rattle.semantics.specs.Folds.{join_over, meet_over}

module _ {S : Type 0} (A : Algebra S) where
  -- a test leads from a letter to the next position
  abbrev pub single_match : (ℕ → S) → ℕ → ℕ → S
  single_match value i j = cond (j == suc i) (value i) A.worst

  -- where either of two segments matches, and where one after the other does
  abbrev pub either_match : (ℕ → ℕ → S) → (ℕ → ℕ → S) → ℕ → ℕ → S
  either_match a b i j = A.join (a i j) (b i j)

  abbrev pub chain_match : (ℕ → ℕ → S) → (ℕ → ℕ → S) → ℕ → ℕ → S
  chain_match a b i j = join_over A (suc i) j (λ k. A.meet (a i k) (b k j))

  -- where the second matches after any number of steps of the first, whose repeats are given
  abbrev pub star_match : (ℕ → ℕ → S) → (ℕ → ℕ → S) → ℕ → ℕ → S
  star_match repeats b i j = join_over A i j (λ k. A.meet (repeats i k) (b k j))

  -- at the log's end n every segment is open
  abbrev pub ending : ℕ → (ℕ → S) → ℕ → S
  ending n o i = cond (i == n) A.best (o i)

  -- where two segments are open together before the log's end n
  abbrev pub either_open : (ℕ → S) → (ℕ → S) → ℕ → S
  either_open first second i = A.join (first i) (second i)

  abbrev pub chain_open : ℕ → (ℕ → ℕ → S) → (ℕ → S) → (ℕ → S) → ℕ → S
  chain_open n a first second i = A.join (first i) (join_over A (suc i) (suc n) (λ j. A.meet (a i j) (second j)))

  abbrev pub star_open : ℕ → (ℕ → ℕ → S) → (ℕ → S) → (ℕ → S) → ℕ → S
  star_open n repeats first second i = join_over A i (suc n) (λ j. A.meet (repeats i j) (A.join (first j) (second j)))

  -- some match, or every match, with the match that ends with the log apart from the others
  abbrev pub some_part : ℕ → (ℕ → ℕ → S) → (ℕ → S) → (ℕ → S) → S → ℕ → S
  some_part n m o after mark i =
      A.join (A.join (join_over A (suc i) n (λ j. A.meet (m i j) (after j))) (A.meet (m i n) mark)) (A.meet (o i) mark)

  abbrev pub every_part : ℕ → (ℕ → ℕ → S) → (ℕ → S) → (ℕ → S) → S → ℕ → S
  every_part n m o after mark i =
      A.meet (A.meet (meet_over A (suc i) n (λ j. A.join (A.opposite (m i j)) (after j))) (A.join (A.opposite (m i n)) mark)) (A.join (A.opposite (o i)) mark)

  -- the next of each kind
  abbrev pub next_part : Kind → ℕ → (ℕ → ℕ → S) → (ℕ → S) → (ℕ → S) → S → ℕ → S
  next_part SomeStrong n m o after mark i = some_part n m o after mark i
  next_part SomeWeak n m o after mark i = some_part n m o after mark i
  next_part EveryStrong n m o after mark i = every_part n m o after mark i
  next_part EveryWeak n m o after mark i = every_part n m o after mark i
