-- What each cell stands for, in terms of the position rules; and that the step keeps to it. Assumes nothing.
use Rattle.std.specs.Prelude.{◌≡◌, ℕ, suc, ◌<◌, Bool, false, cond, List, [], ◌∷◌, ◌++◌, length, get_or, Some, None, Option, slice_index_or}
use Rattle.semantics.specs.Inward.{inward}
use Rattle.cells.specs.Step.{wants_every, step, end_marks}
use Rattle.letter.specs.Heard.{Heard}
use Rattle.rule.specs.declared.leaf.Kind.{Kind}
use Rattle.rule.specs.declared.leaf.Test.{Test}
use Rattle.rule.specs.Tree.{Segment, single, either, chain, star, Rule, letter, negated, both, any, next, until, release}
use Rattle.scale.specs.Laws.{Algebra}
use Rattle.semantics.specs.Equations.{onward}
use Rattle.semantics.specs.Marks.{verdict_marks, floor_marks, ceiling_marks}
use Rattle.semantics.specs.Positions.{every_match, ended, worth}
use Rattle.semantics.specs.Reports.{value_on, test_on, worth_on, verdict, floor, ceiling}

-- value t i is what test t is worth on letter i; n is the length of the log
module _ {S : Type 0} (A : Algebra S) (value : Test → ℕ → S) (n : ℕ) where
  -- a next of some or of every match, with what comes after
  abbrev pub along : Bool → Segment → (ℕ → S) → ℕ → S
  along every a then i = cond every (every_match A value n a then (then n) i) (onward A value n a then i)

  -- what may follow each test within the segment, if anything: after is what comes after the whole segment, within is
  -- the part of that which still belongs to the segment around it
  unfoldable pub follow : Bool → Segment → (ℕ → S) → Option (ℕ → S) → List (Option (ℕ → S))
  follow every (single t) after within = within ∷ []
  follow every (either a b) after within = follow every a after within ++ follow every b after within
  follow every (chain a b) after within = follow every a (along every b after) (Some (along every b after)) ++ follow every b after within
  follow every (star a b) after within =
      follow every a (along every (star a b) after) (Some (along every (star a b) after)) ++ follow every b after within

  abbrev pub present : List (Option (ℕ → S)) → ℕ → List S
  present [] i = []
  present (Some f ∷ fs) i = f i ∷ present fs i
  present (None ∷ fs) i = present fs i

  -- the cells of a segment's tests at position i, after which comes then
  abbrev pub tests_mean : Kind → Segment → (ℕ → S) → ℕ → List S
  tests_mean k a then i = present (follow (wants_every k) a then None) i

  module _ (mark : Kind → S) where
    -- the cells of a rule without `!` at position i: of a next, the rule that comes after a match; of U and R, itself; of a
    -- test, what may follow it. At the log's end each is its mark
    unfoldable pub mean : Rule → ℕ → List S
    mean (letter t) i = []
    mean (negated r) i = mean r i
    mean (both r s) i = mean r i ++ mean s i
    mean (any r s) i = mean r i ++ mean s i
    mean (next k a r) i =
        let then : ℕ → S = ended A value n (worth A value n (λ odd kind. mark kind) false r) (mark k) in
        then i ∷ (tests_mean k a then i ++ mean r i)
    mean (until k r a s) i =
        let then : ℕ → S = ended A value n (worth A value n (λ odd kind. mark kind) false (until k r a s)) (mark k) in
        then i ∷ (mean r i ++ (tests_mean k a then i ++ mean s i))
    mean (release k r a s) i =
        let then : ℕ → S = ended A value n (worth A value n (λ odd kind. mark kind) false (release k r a s)) (mark k) in
        then i ∷ (mean r i ++ (tests_mean k a then i ++ mean s i))

    -- all cells at position i; cell 0 is V(rule, i), and at the log's end a value of its own
    abbrev pub cells_mean : S → Rule → ℕ → List S
    cells_mean whole r i = ended A value n (worth A value n (λ odd kind. mark kind) false r) whole i ∷ mean r i

-- a rule has no `!`
abbrev pub Positive : Rule → Type 0
Positive (letter t) = Unit {0}
Positive (negated r) = ⊥
Positive (both r s) = Positive r × Positive s
Positive (any r s) = Positive r × Positive s
Positive (next k a r) = Positive r
Positive (until k r a s) = Positive r × Positive s
Positive (release k r a s) = Positive r × Positive s

-- the cells before a log, from the cells after it: letter by letter, backwards
abbrev pub steps : {S : Type 0} → Algebra S → Rule → List (Heard S) → List S → List S
steps A r [] v = v
steps A r (l ∷ log) v = step A (λ t. test_on A t.channel t.opposite l) (λ k. get_or (steps A r log v) k A.worst) r

-- the step takes the cells' meanings after a letter to their meanings before it; at the end each cell means its mark
pub record StepLaws {S : Type 0} (A : Algebra S) : Type 0 where
  pub one_letter : (value : Test → ℕ → S) (n : ℕ) (mark : Kind → S) (whole : S) (r : Rule) → Positive r → (i : ℕ) → i < n
      → step A (λ t. value t i) (λ k. get_or (cells_mean A value n mark whole r (suc i)) k A.worst) r ≡ cells_mean A value n mark whole r i
  pub at_end : (value : Test → ℕ → S) (n : ℕ) (mark : Kind → S) (whole : S) (r : Rule) → Positive r
      → cells_mean A value n mark whole r n ≡ end_marks whole mark r
  pub driven : (odd : Bool) (r : Rule) → Positive (inward odd r)

-- verdict, floor and ceiling of a log are cell 0 of its letters' steps at the marks, at all worst and at all best; and at
-- every letter what cell 0 stands for is V(rule, i) of the rule itself, before its `!` is driven inward
pub record Stepped {S : Type 0} (A : Algebra S) (r : Rule) (log : List (Heard S)) : Type 0 where
  pub verdict_is : verdict A r log ≡ slice_index_or (steps A (inward false r) log (end_marks A.pending (verdict_marks A false) (inward false r))) 0 A.worst
  pub floor_is : floor A r log ≡ slice_index_or (steps A (inward false r) log (end_marks A.worst (λ k. A.worst) (inward false r))) 0 A.worst
  pub ceiling_is : ceiling A r log ≡ slice_index_or (steps A (inward false r) log (end_marks A.best (λ k. A.best) (inward false r))) 0 A.worst
  pub verdict_at : (i : ℕ) → i < length log
      → worth_on A (verdict_marks A) r log i ≡ worth A (value_on A log) (length log) (λ odd kind. verdict_marks A false kind) false (inward false r) i
  pub floor_at : (i : ℕ) → i < length log
      → worth_on A (floor_marks A) r log i ≡ worth A (value_on A log) (length log) (λ odd kind. A.worst) false (inward false r) i
  pub ceiling_at : (i : ℕ) → i < length log
      → worth_on A (ceiling_marks A) r log i ≡ worth A (value_on A log) (length log) (λ odd kind. A.best) false (inward false r) i

abbrev pub Stepping : {S : Type 0} → Algebra S → Type 0
Stepping {S} A = (r : Rule) (log : List (Heard S)) → 0 < length log → Stepped A r log
