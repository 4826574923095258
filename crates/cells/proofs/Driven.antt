-- Driving `!` inward leaves no `!`, and no value changed. Assumes nothing.
use Rattle.std.proofs.Common.{◌≡◌, ℕ, zero, suc, ◌-◌, ◌<◌, ◌≤◌, Bool, true, false, cond, not, eqb, sym, refl, ap, ◌∙◌, ap₂, arith}
use mathlib.Core.Path.{fun_ext}
use Rattle.semantics.specs.Inward.{dual, flipped, inward}
use Rattle.cells.specs.Reading.{kind_under}
use Rattle.cells.specs.Step.{wants_every}
use Rattle.cells.specs.Meaning.{along, Positive}
use Rattle.cells.proofs.Along.{along_opposite}
use Rattle.cells.proofs.Rules.{next_along}
use Rattle.rule.specs.declared.leaf.Kind.{Kind}
use Rattle.rule.specs.declared.leaf.Kind.TheVariants.{SomeStrong, SomeWeak, EveryStrong, EveryWeak}
use Rattle.rule.specs.declared.leaf.Test.{Test}
use Rattle.rule.specs.Tree.{Segment, Rule, letter, negated, both, any, next, until, release}
use Rattle.scale.specs.Laws.{Algebra, Lawful}
use Rattle.scale.proofs.Lattice.{opposite_meet}
use Rattle.semantics.specs.Marks.{Marks}
use Rattle.semantics.specs.Positions.{ended, next_of, worth}
use Rattle.semantics.proofs.Bounds.{next_of_same, unrolled}

pub driven : (odd : Bool) (r : Rule) → Positive (inward odd r)
unfolding inward
driven false (letter t) = record {}
driven true (letter t) = record {}
driven false (negated r) = driven true r
driven true (negated r) = driven false r
driven false (both r s) = (driven false r, driven false s)
driven true (both r s) = (driven true r, driven true s)
driven false (any r s) = (driven false r, driven false s)
driven true (any r s) = (driven true r, driven true s)
driven false (next k a r) = driven false r
driven true (next k a r) = driven true r
driven false (until k r a s) = (driven false r, driven false s)
driven true (until k r a s) = (driven true r, driven true s)
driven false (release k r a s) = (driven false r, driven false s)
driven true (release k r a s) = (driven true r, driven true s)

-- the opposite value where the flag is set
abbrev pub turned : {S : Type 0} → Algebra S → Bool → S → S
turned A odd x = cond odd (A.opposite x) x

wants_dual : (k : Kind) → wants_every (dual k) ≡ not (wants_every k)
wants_dual SomeStrong = refl
wants_dual SomeWeak = refl
wants_dual EveryStrong = refl
wants_dual EveryWeak = refl

module _ {S : Type 0} {A : Algebra S} (L : Lawful A) (value : Test → ℕ → S) (n : ℕ) where
  cond_opposite : (b : Bool) (x y : S) → A.opposite (cond b x y) ≡ cond b (A.opposite x) (A.opposite y)
  cond_opposite true x y = refl
  cond_opposite false x y = refl

  -- the opposite of a next is the dual next of the opposite
  next_dual : (k : Kind) (a : Segment) (f : ℕ → S) (m : S) (i : ℕ)
      → next_of A value n (dual k) a (λ j. A.opposite (f j)) (A.opposite m) i ≡ A.opposite (next_of A value n k a f m i)
  next_dual k a f m i = next_along A value n (dual k) a _ _ i
      ∙ (ap (λ e. along A value n e a (ended A value n (λ j. A.opposite (f j)) (A.opposite m)) i) (wants_dual k)
      ∙ (along_opposite L value n (wants_every k) a _ i
      ∙ ap A.opposite (ap (λ g. along A value n (wants_every k) a g i) (fun_ext twice) ∙ sym (next_along A value n k a f m i))))
    where
      twice : (j : ℕ) → A.opposite (ended A value n (λ j. A.opposite (f j)) (A.opposite m) j) ≡ ended A value n f m j
      twice j = ap A.opposite (sym (cond_opposite (eqb j n) m (f j))) ∙ L.opposite_twice _

  module _ (marks : Marks S) (mark : Kind → S) (at_marks : (odd : Bool) (k : Kind) → mark (kind_under odd k) ≡ turned A odd (marks odd k))
      (at_flipped : (t : Test) (i : ℕ) → value (flipped t) i ≡ A.opposite (value t i)) where
    abbrev driven_worth : Bool → Rule → ℕ → S
    driven_worth odd r = worth A value n (λ odd kind. mark kind) false (inward odd r)

    abbrev Agree : Bool → Rule → Type 0
    Agree odd r = (i : ℕ) → i < n → driven_worth odd r i ≡ turned A odd (worth A value n marks odd r i)

    next_turned : (odd : Bool) (k : Kind) (a : Segment) (f g : ℕ → S) (i : ℕ) → ((j : ℕ) → i < j → j < n → f j ≡ turned A odd (g j))
        → next_of A value n (kind_under odd k) a f (mark (kind_under odd k)) i ≡ turned A odd (next_of A value n k a g (marks odd k) i)
    next_turned false k a f g i same = next_of_same A value n k a f g (mark k) i same ∙ ap (λ m. next_of A value n k a g m i) (at_marks false k)
    next_turned true k a f g i same = next_of_same A value n (dual k) a f _ (mark (dual k)) i same
        ∙ (ap (λ m. next_of A value n (dual k) a (λ j. A.opposite (g j)) m i) (at_marks true k) ∙ next_dual k a g (marks true k) i)

    -- U and R, from the log's end back
    until_agrees : (odd : Bool) (k : Kind) (r : Rule) (a : Segment) (s : Rule) → Agree odd r → Agree odd s
        → (far : ℕ) (i : ℕ) → i < n → n - i ≤ far → driven_worth odd (until k r a s) i ≡ turned A odd (worth A value n marks odd (until k r a s) i)
    unfolding inward
    until_agrees odd k r a s hold goal zero i h l = absurd (omega arith)
    until_agrees false k r a s hold goal (suc far) i h l = (unrolled A value n (λ odd kind. mark kind) false k (inward false r) a (inward false s) i h).until_is
        ∙ (ap₂ A.join (goal i h) (ap₂ A.meet (hold i h)
        (next_turned false k a _ _ i (λ j p q. until_agrees false k r a s hold goal far j q (omega arith))))
        ∙ sym (unrolled A value n marks false k r a s i h).until_is)
    until_agrees true k r a s hold goal (suc far) i h l = (unrolled A value n (λ odd kind. mark kind) false (dual k) (inward true r) a (inward true s) i h).release_is
        ∙ (ap₂ A.meet (goal i h) (ap₂ A.join (hold i h)
        (next_turned true k a _ _ i (λ j p q. until_agrees true k r a s hold goal far j q (omega arith))))
        ∙ sym (ap A.opposite (unrolled A value n marks true k r a s i h).until_is ∙ (L.opposite_join _ _ ∙ ap (A.meet _) (opposite_meet L _ _))))

    release_agrees : (odd : Bool) (k : Kind) (r : Rule) (a : Segment) (s : Rule) → Agree odd r → Agree odd s
        → (far : ℕ) (i : ℕ) → i < n → n - i ≤ far → driven_worth odd (release k r a s) i ≡ turned A odd (worth A value n marks odd (release k r a s) i)
    unfolding inward
    release_agrees odd k r a s hold goal zero i h l = absurd (omega arith)
    release_agrees false k r a s hold goal (suc far) i h l = (unrolled A value n (λ odd kind. mark kind) false k (inward false r) a (inward false s) i h).release_is
        ∙ (ap₂ A.meet (goal i h) (ap₂ A.join (hold i h)
        (next_turned false k a _ _ i (λ j p q. release_agrees false k r a s hold goal far j q (omega arith))))
        ∙ sym (unrolled A value n marks false k r a s i h).release_is)
    release_agrees true k r a s hold goal (suc far) i h l = (unrolled A value n (λ odd kind. mark kind) false (dual k) (inward true r) a (inward true s) i h).until_is
        ∙ (ap₂ A.join (goal i h) (ap₂ A.meet (hold i h)
        (next_turned true k a _ _ i (λ j p q. release_agrees true k r a s hold goal far j q (omega arith))))
        ∙ sym (ap A.opposite (unrolled A value n marks true k r a s i h).release_is ∙ (opposite_meet L _ _ ∙ ap (A.join _) (L.opposite_join _ _))))

    -- a rule driven inward is worth the same, or the opposite where the flag is set
    pub agree : (odd : Bool) (r : Rule) → Agree odd r
    unfolding inward worth
    agree false (letter t) i h = refl
    agree true (letter t) i h = at_flipped t i
    agree false (negated r) i h = agree true r i h
    agree true (negated r) i h = agree false r i h ∙ sym (L.opposite_twice _)
    agree false (both r s) i h = ap₂ A.meet (agree false r i h) (agree false s i h)
    agree true (both r s) i h = ap₂ A.join (agree true r i h) (agree true s i h) ∙ sym (opposite_meet L _ _)
    agree false (any r s) i h = ap₂ A.join (agree false r i h) (agree false s i h)
    agree true (any r s) i h = ap₂ A.meet (agree true r i h) (agree true s i h) ∙ sym (L.opposite_join _ _)
    agree false (next k a r) i h = next_turned false k a _ _ i (λ j p q. agree false r j q)
    agree true (next k a r) i h = next_turned true k a _ _ i (λ j p q. agree true r j q)
    agree false (until k r a s) i h = until_agrees false k r a s (agree false r) (agree false s) (n - i) i h (omega arith)
    agree true (until k r a s) i h = until_agrees true k r a s (agree true r) (agree true s) (n - i) i h (omega arith)
    agree false (release k r a s) i h = release_agrees false k r a s (agree false r) (agree false s) (n - i) i h (omega arith)
    agree true (release k r a s) i h = release_agrees true k r a s (agree true r) (agree true s) (n - i) i h (omega arith)
