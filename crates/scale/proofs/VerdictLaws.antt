-- The verdict scale keeps the laws of a scale: an equation of verdicts is tried at each of them. Assumes nothing.
use Rattle.std.proofs.Common.{◌≡◌, Bool, true, false, not, ◌&&◌, ◌||◌, T, eqb, ◌⊎◌, sym, refl, ap, ◌∙◌, subst, inl, inr, arith, eqb→eq}
use lib.Dec.{eqb_refl}
use Rattle.scale.specs.declared.verdict.Verdict.{Verdict}
use Rattle.scale.specs.declared.verdict.Verdict.TheVariants.{Broken, BrokenSoFar, KeptSoFar, Kept}
use Rattle.scale.specs.Laws.{Lawful}
use Rattle.scale.specs.Verdicts.{rank, ranked, verdicts}

abbrev pub all : (Verdict → Bool) → Bool
all p = p Broken && (p BrokenSoFar && (p KeptSoFar && p Kept))

abbrev pub equal : Verdict → Verdict → Bool
equal x y = eqb (rank x) (rank y)

both : (b c : Bool) → T (b && c) → T b × T c
both true c t = (tt, t)
both false c t = absurd t

all_hold : (p : Verdict → Bool) → T (all p) → (x : Verdict) → T (p x)
all_hold p t Broken = (both (p Broken) _ t).0
all_hold p t BrokenSoFar = (both (p BrokenSoFar) _ (both (p Broken) _ t).1).0
all_hold p t KeptSoFar = (both (p KeptSoFar) _ (both (p BrokenSoFar) _ (both (p Broken) _ t).1).1).0
all_hold p t Kept = (both (p KeptSoFar) _ (both (p BrokenSoFar) _ (both (p Broken) _ t).1).1).1

of_rank : (x : Verdict) → ranked (rank x) ≡ x
of_rank Broken = refl
of_rank BrokenSoFar = refl
of_rank KeptSoFar = refl
of_rank Kept = refl

equal_same : (x y : Verdict) → T (equal x y) → x ≡ y
equal_same x y t = sym (of_rank x) ∙ (ap ranked (eqb→eq (rank x) (rank y) t) ∙ of_rank y)

same_equal : (x y : Verdict) → x ≡ y → T (equal x y)
same_equal x y e = subst (λ z. T (equal x z)) e (eqb_refl (rank x))

-- whether two verdicts are the same can be told
pub verdict_told : (x y : Verdict) → Dec (x ≡ y)
verdict_told x y = go (equal x y) refl
  where
    go : (b : Bool) → equal x y ≡ b → Dec (x ≡ y)
    go true e = yes (equal_same x y (subst T (sym e) tt))
    go false e = no (λ d. subst T e (same_equal x y d))

at_each : (f g : Verdict → Verdict) → T (all (λ x. equal (f x) (g x))) → (x : Verdict) → f x ≡ g x
at_each f g t x = equal_same _ _ (all_hold (λ x. equal (f x) (g x)) t x)

at_two : (f g : Verdict → Verdict → Verdict) → T (all (λ x. all (λ y. equal (f x y) (g x y)))) → (x y : Verdict) → f x y ≡ g x y
at_two f g t x y = at_each (f x) (g x) (all_hold (λ x. all (λ y. equal (f x y) (g x y))) t x) y

at_three : (f g : Verdict → Verdict → Verdict → Verdict) → T (all (λ x. all (λ y. all (λ z. equal (f x y z) (g x y z)))))
    → (x y z : Verdict) → f x y z ≡ g x y z
at_three f g t x y z = at_two (f x) (g x) (all_hold (λ x. all (λ y. all (λ z. equal (f x y z) (g x y z)))) t x) y z

-- an operation that gives z only if a part is z
pub from_part : (f : Verdict → Verdict → Verdict) (z : Verdict) → T (all (λ x. all (λ y. not (equal (f x y) z) || (equal x z || equal y z))))
    → (x y : Verdict) → f x y ≡ z → (x ≡ z) ⊎ (y ≡ z)
from_part f z t x y e = go (equal (f x y) z) (equal x z) (equal y z) (same_equal _ _ e) (equal_same x z) (equal_same y z)
    (all_hold (λ y. not (equal (f x y) z) || (equal x z || equal y z)) (all_hold (λ x. all (λ y. not (equal (f x y) z) || (equal x z || equal y z))) t x) y)
  where
    go : (a b c : Bool) → T a → (T b → x ≡ z) → (T c → y ≡ z) → T (not a || (b || c)) → (x ≡ z) ⊎ (y ≡ z)
    go true true c s p q u = inl (p tt)
    go true false c s p q u = inr (q u)
    go false b c s p q u = absurd s

pub verdicts_lawful : Lawful verdicts
verdicts_lawful = record {
  join_assoc = at_three _ _ tt;
  meet_assoc = at_three _ _ tt;
  join_comm = at_two _ _ tt;
  meet_comm = at_two _ _ tt;
  join_meet = at_three _ _ tt;
  meet_join = at_three _ _ tt;
  join_absorbs = at_two _ _ tt;
  meet_absorbs = at_two _ _ tt;
  worst_join = at_each _ _ tt;
  best_meet = at_each _ _ tt;
  apart = λ e. omega (arith, ap rank e);
  opposite_twice = at_each _ _ tt;
  opposite_join = at_two _ _ tt;
  opposite_pending = refl;
}
