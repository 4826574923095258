-- The steps over a log, letter by letter, give its verdict, floor and ceiling. Assumes nothing.
use Rattle.std.proofs.Common.{◌≡◌, ℕ, suc, ◌+◌, ◌<◌, Bool, true, false, not, List, [], ◌∷◌, length, get_or, Some, None, Option, sym, refl, ap, ◌∙◌, ap₂, arith}
use mathlib.Core.Path.{fun_ext}
use Rattle.semantics.specs.Inward.{inward}
use Rattle.cells.specs.Step.{step, end_marks}
use Rattle.cells.specs.Meaning.{cells_mean, Positive, steps, StepLaws, Stepping}
use Rattle.cells.proofs.Rules.{ended_now, cells_end, cells_step}
use Rattle.cells.specs.Reading.{kind_under}
use Rattle.cells.proofs.Driven.{driven, turned, agree}
use Rattle.letter.specs.Heard.{Heard}
use Rattle.rule.specs.declared.leaf.Channel.{Channel}
use Rattle.rule.specs.declared.leaf.Kind.{Kind}
use Rattle.rule.specs.declared.leaf.Kind.TheVariants.{SomeStrong, SomeWeak, EveryStrong, EveryWeak}
use Rattle.rule.specs.declared.leaf.Test.{Test}
use Rattle.rule.specs.Tree.{Rule}
use Rattle.scale.specs.Laws.{Algebra, Lawful}
use Rattle.scale.proofs.Lattice.{opposite_worst, opposite_best, opposite_presumed}
use Rattle.semantics.specs.Marks.{Marks, verdict_marks, floor_marks, ceiling_marks}
use Rattle.semantics.specs.Positions.{worth}
use Rattle.semantics.specs.Reports.{test_on, value_on, worth_on}

pub step_laws : {S : Type 0} {A : Algebra S} → Lawful A → StepLaws A
step_laws L = record { one_letter = cells_step L; at_end = cells_end L; driven = driven }

module _ {S : Type 0} {A : Algebra S} (L : Lawful A) where
  -- a flipped test is worth the opposite
  test_flipped : (c : Option Channel) (o : Bool) (l : Heard S) → test_on A c (not o) l ≡ A.opposite (test_on A c o l)
  test_flipped None false l = sym (opposite_best L)
  test_flipped None true l = sym (opposite_worst L)
  test_flipped (Some c) false l = refl
  test_flipped (Some c) true l = sym (L.opposite_twice _)

  -- the steps over the letters from i on give the cells' meanings at i
  steps_are : (value : Test → ℕ → S) (n : ℕ) (mark : Kind → S) (whole : S) (r : Rule) → Positive r
      → (log : List (Heard S)) (i : ℕ) → i + length log ≡ n → ((t : Test) (k : ℕ) → value t (i + k) ≡ value_on A log t k)
      → steps A r log (end_marks whole mark r) ≡ cells_mean A value n mark whole r i
  steps_are value n mark whole r p [] i e same =
      let at_end : n ≡ i = omega arith in
      sym (cells_end L value n mark whole r p) ∙ ap (cells_mean A value n mark whole r) at_end
  steps_are value n mark whole r p (l ∷ log) i e same =
      let here : i + 0 ≡ i = omega arith in
      let rest = steps_are value n mark whole r p log (suc i) (omega arith)
      (λ t k. let next : suc i + k ≡ i + suc k = omega arith in ap (value t) next ∙ same t (suc k)) in
      ap₂ (λ v (cells : List S). step A v (λ k. get_or cells k A.worst) r) (fun_ext (λ t. sym (same t 0) ∙ ap (value t) here)) rest
      ∙ cells_step L value n mark whole r p i (omega arith)

  agrees : (marks : Marks S) (mark : Kind → S) → ((odd : Bool) (k : Kind) → mark (kind_under odd k) ≡ turned A odd (marks odd k))
      → (r : Rule) (log : List (Heard S)) (i : ℕ) → i < length log
      → worth_on A marks r log i ≡ worth A (value_on A log) (length log) (λ odd kind. mark kind) false (inward false r) i
  agrees marks mark at_marks r log i h =
      sym (agree L (value_on A log) (length log) marks mark at_marks (λ t i. test_flipped t.channel t.opposite _) false r i h)

  worth_is : (marks : Marks S) (mark : Kind → S) (whole : S) → ((odd : Bool) (k : Kind) → mark (kind_under odd k) ≡ turned A odd (marks odd k))
      → (r : Rule) (log : List (Heard S)) → 0 < length log
      → worth_on A marks r log 0 ≡ get_or (steps A (inward false r) log (end_marks whole mark (inward false r))) 0 A.worst
  worth_is marks mark whole at_marks r log h =
      let value : Test → ℕ → S = value_on A log in
      agrees marks mark at_marks r log 0 h
      ∙ (sym (ended_now A value (length log) (worth A value (length log) (λ odd kind. mark kind) false (inward false r)) whole 0 h)
      ∙ ap (λ cells. get_or cells 0 A.worst) (sym (steps_are value (length log) mark whole (inward false r) (driven false r) log 0 (omega arith)
      (λ t k. let here : 0 + k ≡ k = omega arith in ap (value t) here))))

  verdict_turned : (odd : Bool) (k : Kind) → verdict_marks A false (kind_under odd k) ≡ turned A odd (verdict_marks A odd k)
  verdict_turned false k = refl
  verdict_turned true SomeStrong = sym L.opposite_pending
  verdict_turned true SomeWeak = sym (opposite_presumed L)
  verdict_turned true EveryStrong = sym L.opposite_pending
  verdict_turned true EveryWeak = sym (opposite_presumed L)

  floor_turned : (odd : Bool) (k : Kind) → A.worst ≡ turned A odd (floor_marks A odd k)
  floor_turned false k = refl
  floor_turned true k = sym (opposite_best L)

  ceiling_turned : (odd : Bool) (k : Kind) → A.best ≡ turned A odd (ceiling_marks A odd k)
  ceiling_turned false k = refl
  ceiling_turned true k = sym (opposite_worst L)

  pub stepping : Stepping A
  stepping r log h = record {
    verdict_is = worth_is (verdict_marks A) (verdict_marks A false) A.pending verdict_turned r log h;
    floor_is = worth_is (floor_marks A) (λ k. A.worst) A.worst floor_turned r log h;
    ceiling_is = worth_is (ceiling_marks A) (λ k. A.best) A.best ceiling_turned r log h;
    verdict_at = agrees (verdict_marks A) (verdict_marks A false) verdict_turned r log;
    floor_at = agrees (floor_marks A) (λ k. A.worst) floor_turned r log;
    ceiling_at = agrees (ceiling_marks A) (λ k. A.best) ceiling_turned r log;
  }
