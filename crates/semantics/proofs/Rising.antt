-- What a rule is worth rises with its marks, so the verdict lies between the floor and the ceiling. Assumes nothing.
use Rattle.std.proofs.Common.{◌≡◌, ℕ, zero, suc, ◌-◌, Bool, true, false, cond, not, eqb, List, length, refl, subst}
use Rattle.letter.specs.Heard.{Heard}
use Rattle.rule.specs.declared.leaf.Kind.{Kind}
use Rattle.rule.specs.declared.leaf.Kind.TheVariants.{SomeStrong, SomeWeak, EveryStrong, EveryWeak}
use Rattle.rule.specs.declared.leaf.Test.{Test}
use Rattle.rule.specs.Tree.{Segment, Rule, letter, negated, both, any, next, until, release}
use Rattle.scale.specs.Laws.{Algebra, Lawful, Below}
use Rattle.scale.proofs.Lattice.{below_refl, worst_below, below_best, join_rises, meet_rises, opposite_falls}
use Rattle.semantics.specs.Marks.{Marks, verdict_marks, floor_marks, ceiling_marks}
use Rattle.semantics.specs.Positions.{some_match, every_match, ended, next_of, until_from, release_from, worth}
use Rattle.semantics.specs.Reports.{value_on, verdict, floor, ceiling}
use Rattle.semantics.proofs.Ranges.{join_over_rises, meet_over_rises}

pub not_not : (odd : Bool) → odd ≡ not (not odd)
not_not true = refl
not_not false = refl

module _ {S : Type 0} {A : Algebra S} (L : Lawful A) where
  cond_rises : {x y z w : S} (b : Bool) → Below A x z → Below A y w → Below A (cond b x y) (cond b z w)
  cond_rises true p q = p
  cond_rises false p q = q

  module _ (value : Test → ℕ → S) (n : ℕ) where
    module _ {f g : ℕ → S} {m l : S} (after : (j : ℕ) → Below A (f j) (g j)) (mark : Below A m l) where
      some_rises : (a : Segment) (i : ℕ) → Below A (some_match A value n a (ended A value n f m) m i) (some_match A value n a (ended A value n g l) l i)
      some_rises a i = join_rises L
          (join_over_rises L (suc i) (suc n) (λ j p q. meet_rises L (below_refl L _) (cond_rises (eqb j n) mark (after j))))
          (meet_rises L (below_refl L _) mark)

      every_rises : (a : Segment) (i : ℕ) → Below A (every_match A value n a (ended A value n f m) m i) (every_match A value n a (ended A value n g l) l i)
      every_rises a i = meet_rises L
          (meet_over_rises L (suc i) (suc n) (λ j p q. join_rises L (below_refl L _) (cond_rises (eqb j n) mark (after j))))
          (join_rises L (below_refl L _) mark)

      -- a next rises with what comes after it and with its mark
      pub next_rises : (k : Kind) (a : Segment) (i : ℕ) → Below A (next_of A value n k a f m i) (next_of A value n k a g l i)
      next_rises SomeStrong a i = some_rises a i
      next_rises SomeWeak a i = some_rises a i
      next_rises EveryStrong a i = every_rises a i
      next_rises EveryWeak a i = every_rises a i

    module _ {h g o u : ℕ → S} {m l : S} (hold : (j : ℕ) → Below A (h j) (g j)) (goal : (j : ℕ) → Below A (o j) (u j)) (mark : Below A m l)
        (k : Kind) (a : Segment) where
      pub until_rises : (b i : ℕ) → Below A (until_from A value n b k a h o m i) (until_from A value n b k a g u l i)
      unfolding until_from
      until_rises zero i = below_refl L _
      until_rises (suc b) i = join_rises L (goal i) (meet_rises L (hold i) (next_rises (until_rises b) mark k a i))

      pub release_rises : (b i : ℕ) → Below A (release_from A value n b k a h o m i) (release_from A value n b k a g u l i)
      unfolding release_from
      release_rises zero i = below_refl L _
      release_rises (suc b) i = meet_rises L (goal i) (join_rises L (hold i) (next_rises (release_rises b) mark k a i))

    -- a rule rises with the marks under an even number of `!` and falls with the others
    pub worth_rises : (r : Rule) (low high : Marks S) (odd : Bool) → ((k : Kind) → Below A (low odd k) (high odd k))
        → ((k : Kind) → Below A (high (not odd) k) (low (not odd) k)) → (i : ℕ) → Below A (worth A value n low odd r i) (worth A value n high odd r i)
    unfolding worth
    worth_rises (letter t) low high odd same other i = below_refl L _
    worth_rises (negated r) low high odd same other i =
        opposite_falls L (worth_rises r high low (not odd) other (subst (λ o. (k : Kind) → Below A (low o k) (high o k)) (not_not odd) same) i)
    worth_rises (both r s) low high odd same other i = meet_rises L (worth_rises r low high odd same other i) (worth_rises s low high odd same other i)
    worth_rises (any r s) low high odd same other i = join_rises L (worth_rises r low high odd same other i) (worth_rises s low high odd same other i)
    worth_rises (next k a r) low high odd same other i = next_rises (worth_rises r low high odd same other) (same k) k a i
    worth_rises (until k r a s) low high odd same other i =
        until_rises (worth_rises r low high odd same other) (worth_rises s low high odd same other) (same k) k a (n - i) i
    worth_rises (release k r a s) low high odd same other i =
        release_rises (worth_rises r low high odd same other) (worth_rises s low high odd same other) (same k) k a (n - i) i

  -- the floor lies below the verdict, and the verdict below the ceiling
  pub floor_verdict_ceiling : (r : Rule) (log : List (Heard S)) → Below A (floor A r log) (verdict A r log) × Below A (verdict A r log) (ceiling A r log)
  floor_verdict_ceiling r log = (
    worth_rises (value_on A log) (length log) r (floor_marks A) (verdict_marks A) false (λ k. worst_below L _) (λ k. below_best L _) 0,
    worth_rises (value_on A log) (length log) r (verdict_marks A) (ceiling_marks A) false (λ k. below_best L _) (λ k. worst_below L _) 0,
  )
