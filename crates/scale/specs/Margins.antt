-- The margin scale: join is the larger number, meet the smaller, opposite the negated number. Assumes nothing.
use Rattle.std.specs.Prelude.{◌≡◌, ◌≢◌, Ok, Err, Result, zero, suc, ◌%◌, Bool, true, false, cond, ℤ, pos, negsuc, neg_ℤ, ◌==◌, int_lt, nat_le, unsigned_abs, refl}
use Rattle.std.proofs.Common.{lit≤}
use Rattle.scale.specs.declared.fault.CodeFault.{CodeFault}
use Rattle.scale.specs.declared.fault.CodeFault.TheVariants.{Short, NoCode}
use Rattle.scale.specs.declared.margin.Margin.{Margin}
use Rattle.scale.specs.Laws.{Algebra}
use Rattle.std.proofs.lemmas.Bool.{eqb-true, leb-true}

-- a number and its negation are as far from 0
pub unsigned_abs_neg : (z : ℤ) → unsigned_abs (neg_ℤ z) ≡ unsigned_abs z
unsigned_abs_neg (pos zero) = refl
unsigned_abs_neg (pos (suc n)) = refl
unsigned_abs_neg (negsuc n) = refl

abbrev pub negated : Margin → Margin
negated x = record { number = neg_ℤ x.number; odd = rw unsigned_abs_neg x.odd; within = rw unsigned_abs_neg x.within }

abbrev pub least : Margin
least = record { number = negsuc 32766; odd = refl; within = lit≤ tt }

abbrev pub greatest : Margin
greatest = record { number = pos 32767; odd = refl; within = lit≤ tt }

abbrev pub margin_if : (z : ℤ) (odd small : Bool) → (unsigned_abs z % 2 == 1) ≡ odd → nat_le (unsigned_abs z) 32767 ≡ small → Margin
margin_if z true true o w = record { number = z; odd = eqb-true _ _ o; within = leb-true _ _ w }
margin_if z true false o w = least
margin_if z false small o w = least

-- the margin with a number; the least where no margin has it
abbrev pub margin_of : ℤ → Margin
margin_of z = margin_if z (unsigned_abs z % 2 == 1) (nat_le (unsigned_abs z) 32767) refl refl

-- the margin with a number, or that no margin has it
abbrev pub IsMarginNumbered : ℤ → Result Margin CodeFault → Type 0
IsMarginNumbered number (Ok m) = m.number ≡ number
IsMarginNumbered number (Err NoCode) = (m : Margin) → m.number ≢ number
IsMarginNumbered number (Err Short) = ⊥

abbrev pub margins : Algebra Margin
margins = record {
  worst = least;
  best = greatest;
  pending = least;
  presumed = greatest;
  join = λ x y. cond (int_lt x.number y.number) y x;
  meet = λ x y. cond (int_lt y.number x.number) y x;
  opposite = negated;
}
