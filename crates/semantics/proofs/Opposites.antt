-- A rule with its `!` driven inward holds where the rule does, and its opposite where the rule does not. Assumes nothing.
use Rattle.std.proofs.Common.{◌≡◌, ℕ, Bool, true, false, not, T}
use Rattle.rule.specs.declared.leaf.Kind.{Kind}
use Rattle.rule.specs.declared.leaf.Kind.TheVariants.{SomeStrong, SomeWeak, EveryStrong, EveryWeak}
use Rattle.rule.specs.declared.leaf.Test.{Test}
use Rattle.rule.specs.Tree.{Segment, Rule, letter, negated, both, any, next, until, release}
use Rattle.scale.specs.Laws.{Algebra}
use Rattle.semantics.specs.Endless.{Or, SomePlace, Smallest, Largest, Lasting, Next, Holds}
use Rattle.semantics.specs.Inward.{dual, inward}
use Rattle.semantics.specs.Sanity.{TwoWay}
use Rattle.semantics.proofs.Told.{told_stable, test_stable}

-- one holds just where the other does not
pub record Opposed (P Q : Type 0) : Type 0 where
  pub apart : P → Q → ⊥
  pub other : (P → ⊥) → Q
  pub one : (Q → ⊥) → P

turned : {P Q : Type 0} → Opposed P Q → Opposed Q P
turned h = record { apart = λ q p. h.apart p q; other = h.one; one = h.other }

-- what has the same opposite is the same
pub same_opposite : {P P' Q : Type 0} → Opposed P Q → Opposed P' Q → P → P'
same_opposite g h p = h.one (g.apart p)

opposed_test : (b : Bool) → Opposed (T b) (T (not b))
opposed_test true = record { apart = λ t e. e; other = λ n. n tt; one = λ n. tt }
opposed_test false = record { apart = λ t e. t; other = λ n. tt; one = λ n. n tt }

opposed_both : {P P' Q Q' : Type 0} → Opposed P P' → Opposed Q Q' → Opposed (P × Q) (Or P' Q')
opposed_both g h = record {
  apart = λ z o. o (g.apart z.0, h.apart z.1);
  other = λ n z. n (g.one z.0, h.one z.1);
  one = λ n. (g.one (λ p. n (λ z. z.0 p)), h.one (λ q. n (λ z. z.1 q)));
}

opposed_any : {P P' Q Q' : Type 0} → Opposed P P' → Opposed Q Q' → Opposed (Or P Q) (P' × Q')
opposed_any g h = turned (opposed_both (turned g) (turned h))

opposed_place : {M P Q : ℕ → Type 0} → ((j : ℕ) → Opposed (P j) (Q j)) → Opposed (SomePlace (λ j. M j × P j)) ((j : ℕ) → M j → Q j)
opposed_place h = record {
  apart = λ s e. s (λ j z. (h j).apart z.1 (e j z.0));
  other = λ n j m. (h j).other (λ p. n (λ none. none j (m, p)));
  one = λ n none. n (λ j m. (h j).other (λ p. none j (m, p)));
}

-- unrollings that are opposed on opposed sets
abbrev OpposedUnrolls : ((ℕ → Type 0) → ℕ → Type 0) → ((ℕ → Type 0) → ℕ → Type 0) → Type 0
OpposedUnrolls U V = (P Q : ℕ → Bool) → ((j : ℕ) → Opposed (T (P j)) (T (Q j))) → (j : ℕ) → Opposed (U (λ j. T (P j)) j) (V (λ j. T (Q j)) j)

module _ (U V : (ℕ → Type 0) → ℕ → Type 0) (h : OpposedUnrolls U V) where
  -- what a closed set leaves out is in the largest set of the opposed unrolling
  left_out : (P : ℕ → Bool) → ((k : ℕ) → U (λ j. T (P j)) k → T (P k)) → (i : ℕ) → (T (P i) → ⊥) → Largest V i
  left_out P closed i n = λ none. none (λ j. not (P j)) ((opposed_test (P i)).other n)
      (λ k t. (h P _ (λ j. opposed_test (P j)) k).other (λ u. (opposed_test (P k)).apart (closed k u) t))

  -- the complement of the smallest set is the largest set of the opposed unrolling
  opposed_smallest : (i : ℕ) → Opposed (Smallest U i) (Largest V i)
  opposed_smallest i = record {
    apart = λ s l. l (λ Q here out. (opposed_test (Q i)).apart here (s (λ j. not (Q j))
        (λ k u. (opposed_test (Q k)).other (λ q. (h _ Q (λ j. turned (opposed_test (Q j))) k).apart u (out k q)))));
    other = λ n none. n (λ P closed. test_stable (P i) (λ q. left_out P closed i q none));
    one = λ n P closed. test_stable (P i) (λ q. n (left_out P closed i q));
  }

opposed_lasting : (k : Kind) (U V : (ℕ → Type 0) → ℕ → Type 0) → OpposedUnrolls U V → (i : ℕ) → Opposed (Lasting k U i) (Lasting (dual k) V i)
opposed_lasting SomeStrong U V h i = opposed_smallest U V h i
opposed_lasting EveryStrong U V h i = opposed_smallest U V h i
opposed_lasting SomeWeak U V h i = turned (opposed_smallest V U (λ P Q o j. turned (h Q P (λ j. turned (o j)) j)) i)
opposed_lasting EveryWeak U V h i = turned (opposed_smallest V U (λ P Q o j. turned (h Q P (λ j. turned (o j)) j)) i)

module _ {S : Type 0} (A : Algebra S) (value : Test → ℕ → S) where
  opposed_next : (k : Kind) (a : Segment) (P Q : ℕ → Type 0) → ((j : ℕ) → Opposed (P j) (Q j)) → (i : ℕ)
      → Opposed (Next A value k a P i) (Next A value (dual k) a Q i)
  opposed_next SomeStrong a P Q h i = opposed_place h
  opposed_next SomeWeak a P Q h i = opposed_place h
  opposed_next EveryStrong a P Q h i = turned (opposed_place (λ j. turned (h j)))
  opposed_next EveryWeak a P Q h i = turned (opposed_place (λ j. turned (h j)))

  -- rules that are opposed at every letter
  abbrev pub Opposites : Rule → Rule → Type 0
  Opposites r s = (i : ℕ) → Opposed (Holds A value r i) (Holds A value s i)

  module _ (best_told : (x : S) → Dec (x ≡ A.best)) (two_way : TwoWay A value) where
    opposed_letter : (t : Test) → Opposites (letter t) (inward true (letter t))
    unfolding Holds inward
    opposed_letter t i = record {
      apart = λ p q. (two_way t i).0 q p;
      other = (two_way t i).1;
      one = λ n. told_stable (best_told (value t i)) (λ p. n ((two_way t i).1 p));
    }

    pub opposed_inward : (r : Rule) → Opposites (inward false r) (inward true r)
    unfolding Holds inward
    opposed_inward (letter t) i = opposed_letter t i
    opposed_inward (negated r) i = turned (opposed_inward r i)
    opposed_inward (both r s) i = opposed_both (opposed_inward r i) (opposed_inward s i)
    opposed_inward (any r s) i = opposed_any (opposed_inward r i) (opposed_inward s i)
    opposed_inward (next k a r) i = opposed_next k a _ _ (opposed_inward r) i
    opposed_inward (until k r a s) i = opposed_lasting k _ _ (λ P Q h j. opposed_any (opposed_inward s j) (opposed_both (opposed_inward r j) (opposed_next k a _ _ h j))) i
    opposed_inward (release k r a s) i = opposed_lasting k _ _ (λ P Q h j. opposed_both (opposed_inward s j) (opposed_any (opposed_inward r j) (opposed_next k a _ _ h j))) i

    pub opposed_rule : (r : Rule) → Opposites r (inward true r)
    unfolding Holds inward
    opposed_rule (letter t) i = opposed_letter t i
    opposed_rule (negated r) i = record {
      apart = λ n h. (opposed_inward r i).apart h ((opposed_rule r i).other n);
      other = λ n. (opposed_inward r i).one (λ h. n (λ p. (opposed_rule r i).apart p h));
      one = λ n p. n (same_opposite (opposed_rule r i) (opposed_inward r i) p);
    }
    opposed_rule (both r s) i = opposed_both (opposed_rule r i) (opposed_rule s i)
    opposed_rule (any r s) i = opposed_any (opposed_rule r i) (opposed_rule s i)
    opposed_rule (next k a r) i = opposed_next k a _ _ (opposed_rule r) i
    opposed_rule (until k r a s) i = opposed_lasting k _ _ (λ P Q h j. opposed_any (opposed_rule s j) (opposed_both (opposed_rule r j) (opposed_next k a _ _ h j))) i
    opposed_rule (release k r a s) i = opposed_lasting k _ _ (λ P Q h j. opposed_both (opposed_rule s j) (opposed_any (opposed_rule r j) (opposed_next k a _ _ h j))) i
