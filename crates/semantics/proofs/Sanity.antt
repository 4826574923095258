-- Double negation, `!` driven inward and unrolling keep what holds on an endless log. Assumes nothing.
use Rattle.std.proofs.Common.{◌≡◌, ℕ, Bool, true, false, not, ◌⊎◌, Some, None, Option, sym, refl, ap, ◌∙◌, inl, inr, ⊎_elim}
use Rattle.letter.specs.Heard.{Heard}
use Rattle.rule.specs.declared.leaf.Channel.{Channel}
use Rattle.rule.specs.declared.leaf.Kind.{Kind}
use Rattle.rule.specs.declared.leaf.Kind.TheVariants.{SomeStrong, SomeWeak, EveryStrong, EveryWeak}
use Rattle.rule.specs.declared.leaf.Test.{Test}
use Rattle.rule.specs.Tree.{Segment, Rule, letter, negated, both, any, next, until, release}
use Rattle.scale.specs.Laws.{Algebra, Lawful}
use Rattle.scale.proofs.Lattice.{opposite_worst, opposite_best}
use Rattle.semantics.specs.Continuations.{Plain, value_along}
use Rattle.semantics.specs.Endless.{Or, Lasting, Next, Holds}
use Rattle.semantics.specs.Inward.{inward}
use Rattle.semantics.specs.Reports.{test_on}
use Rattle.semantics.specs.Sanity.{Same, TwoWay, Sensible, Sane}
use Rattle.semantics.proofs.Opposites.{Opposed, same_opposite, opposed_inward, opposed_rule}
use Rattle.semantics.proofs.Told.{Stable, told_stable, test_stable}
use Rattle.semantics.proofs.Unrolling.{Rises, strong_closed, weak_opens, told_unrolled}

lasting_stable : (k : Kind) (U : (ℕ → Type 0) → ℕ → Type 0) (i : ℕ) → Stable (Lasting k U i)
lasting_stable SomeStrong U i n = λ P closed. test_stable (P i) (λ h. n (λ s. h (s P closed)))
lasting_stable EveryStrong U i n = λ P closed. test_stable (P i) (λ h. n (λ s. h (s P closed)))
lasting_stable SomeWeak U i n = λ none. n (λ s. s none)
lasting_stable EveryWeak U i n = λ none. n (λ s. s none)

module _ {S : Type 0} (A : Algebra S) (best_told : (x : S) → Dec (x ≡ A.best)) (value : Test → ℕ → S) where
  next_stable : (k : Kind) (a : Segment) (P : ℕ → Type 0) (i : ℕ) → ((j : ℕ) → Stable (P j)) → Stable (Next A value k a P i)
  next_stable SomeStrong a P i h n = λ none. n (λ s. s none)
  next_stable SomeWeak a P i h n = λ none. n (λ s. s none)
  next_stable EveryStrong a P i h n = λ j m. h j (λ f. n (λ s. f (s j m)))
  next_stable EveryWeak a P i h n = λ j m. h j (λ f. n (λ s. f (s j m)))

  holds_stable : (r : Rule) (i : ℕ) → Stable (Holds A value r i)
  unfolding Holds
  holds_stable (letter t) i n = told_stable (best_told (value t i)) n
  holds_stable (negated r) i n = λ h. n (λ f. f h)
  holds_stable (both r s) i n = (holds_stable r i (λ f. n (λ h. f h.0)), holds_stable s i (λ f. n (λ h. f h.1)))
  holds_stable (any r s) i n = λ neither. n (λ h. h neither)
  holds_stable (next k a r) i n = next_stable k a (Holds A value r) i (holds_stable r) n
  holds_stable (until k r a s) i n = lasting_stable k _ i n
  holds_stable (release k r a s) i n = lasting_stable k _ i n

  next_rises : (k : Kind) (a : Segment) → Rises (Next A value k a)
  next_rises SomeStrong a P Q f i s = λ none. s (λ j z. none j (z.0, f j z.1))
  next_rises SomeWeak a P Q f i s = λ none. s (λ j z. none j (z.0, f j z.1))
  next_rises EveryStrong a P Q f i s = λ j m. f j (s j m)
  next_rises EveryWeak a P Q f i s = λ j m. f j (s j m)

  module _ (k : Kind) (r : Rule) (a : Segment) (s : Rule) where
    abbrev UntilUnroll : (ℕ → Type 0) → ℕ → Type 0
    UntilUnroll P i = Or (Holds A value s i) (Holds A value r i × Next A value k a P i)

    abbrev ReleaseUnroll : (ℕ → Type 0) → ℕ → Type 0
    ReleaseUnroll P i = Holds A value s i × Or (Holds A value r i) (Next A value k a P i)

    until_rises : Rises UntilUnroll
    until_rises P Q f i u = λ z. u (z.0, λ y. z.1 (y.0, next_rises k a P Q f i y.1))

    release_rises : Rises ReleaseUnroll
    release_rises P Q f i u = (u.0, λ z. u.1 (z.0, λ y. z.1 (next_rises k a P Q f i y)))

    until_stable : (P : ℕ → Type 0) (i : ℕ) → Stable (UntilUnroll P i)
    until_stable P i n = λ z. n (λ u. u z)

    release_stable : (P : ℕ → Type 0) (i : ℕ) → Stable (ReleaseUnroll P i)
    release_stable P i n = (holds_stable s i (λ f. n (λ u. f u.0)), λ z. n (λ u. u.1 z))

  sensible : Sensible A value
  unfolding Holds
  sensible = record {
    twice_not = holds_stable;
    not_twice = λ r i h n. n h;
    driven = λ w r i.
        let g : Opposed (Holds A value (inward false r) i) (Holds A value (inward true r) i) = opposed_inward A value best_told w r i in
        let h : Opposed (Holds A value r i) (Holds A value (inward true r) i) = opposed_rule A value best_told w r i in
        ((same_opposite g h, same_opposite h g), (λ q p. h.apart p q, h.other));
    strong_until_closed = λ k t r a s. strong_closed _ (until_rises k r a s) k t;
    strong_release_closed = λ k t r a s. strong_closed _ (release_rises k r a s) k t;
    weak_until_opens = λ k t r a s i. weak_opens _ (until_rises k r a s) k t i (until_stable k r a s _ i);
    weak_release_opens = λ k t r a s i. weak_opens _ (release_rises k r a s) k t i (release_stable k r a s _ i);
    until_unrolled = λ k r a s. told_unrolled _ (until_rises k r a s) k (until_stable k r a s _);
    release_unrolled = λ k r a s. told_unrolled _ (release_rises k r a s) k (release_stable k r a s _);
  }

pub sane : {S : Type 0} (A : Algebra S) → Sane A
sane A = sensible A

-- with channels of worst and best a flipped test is best just where the test is not
pub plain_two_way : {S : Type 0} {A : Algebra S} → Lawful A → (endless : ℕ → Heard S) → Plain A endless → TwoWay A (value_along A endless)
plain_two_way {S} {A} L endless plain t i = go t.channel t.opposite
  where
    crossed : {x y : S} → ((x ≡ A.worst) × (y ≡ A.best)) ⊎ ((x ≡ A.best) × (y ≡ A.worst)) → Same (y ≡ A.best) (x ≡ A.best → ⊥)
    crossed = ⊎_elim (λ z. (λ e d. L.apart (sym z.0 ∙ d), λ n. z.1)) (λ z. (λ e. absurd (L.apart (sym z.1 ∙ e)), λ n. absurd (n z.0)))

    go : (c : Option Channel) (odd : Bool) → Same (test_on A c (not odd) (endless i) ≡ A.best) (test_on A c odd (endless i) ≡ A.best → ⊥)
    go None false = crossed (inr (refl, refl))
    go None true = crossed (inl (refl, refl))
    go (Some c) false = crossed (⊎_elim (λ e. inl (e, ap A.opposite e ∙ opposite_worst L)) (λ e. inr (e, ap A.opposite e ∙ opposite_best L)) (plain i c.number))
    go (Some c) true = crossed (⊎_elim (λ e. inr (ap A.opposite e ∙ opposite_worst L, e)) (λ e. inl (ap A.opposite e ∙ opposite_best L, e)) (plain i c.number))
