-- The laws of the margin scale. Assumes nothing.
use Rattle.std.specs.Prelude.{◌≡◌, ◌/◌, ◌%◌, ◌≤◌, Bool, true, false, cond, T, ℤ, pos, negsuc, neg_ℤ, FitsSigned, ◌==◌, int_lt, nat_eq, nat_le, unsigned_abs, refl}
use mathlib.Core.HLevel.{is_prop→PathP}
use Rattle.std.proofs.Common.{sym, ap, ◌∙◌, arith, eqb→eq, lit<, lit≤, of_z, to_z}
use Rattle.std.proofs.Math.Bridge.{le_prop}
use Rattle.std.proofs.Math.Nat.{ℕ_set}
use Rattle.std.proofs.Math.Dec.{eqb_refl}
use Rattle.std.proofs.Math.IntN.{neg_ℤ-neg_ℤ, pos-ne-negsuc}
use Rattle.std.specs.Int.{w16}
use Rattle.scale.specs.declared.margin.Margin.{Margin}
use Rattle.scale.specs.Codes.{Sound}
use Rattle.scale.specs.Laws.{Lawful}
use Rattle.scale.specs.MarginCode.{sixteen_bits, margin_coding}
use Rattle.scale.specs.Margins.{margins, margin_if, margin_of}
use Rattle.std.proofs.lemmas.Int.{ints, to_z-of_z}
use Rattle.std.proofs.lemmas.Bool.{eq-eqb, le-leb, false≢true}

-- two margins are equal when their numbers are
pub margin_path : (x y : Margin) → x.number ≡ y.number → x ≡ y
margin_path x y e = λ i. record {
  number = e i;
  odd = is_prop→PathP (λ j. unsigned_abs (e j) % 2 ≡ 1) (λ j. ℕ_set (unsigned_abs (e j) % 2) 1) x.odd y.odd i;
  within = is_prop→PathP (λ j. unsigned_abs (e j) ≤ 32767) (λ j. le_prop) x.within y.within i;
}

abbrev larger : ℤ → ℤ → ℤ
larger a b = cond (int_lt a b) b a

abbrev smaller : ℤ → ℤ → ℤ
smaller a b = cond (int_lt b a) b a

-- the number of a join is the larger number, of a meet the smaller
number_cond : (b : Bool) (x y : Margin) → (cond b x y).number ≡ cond b x.number y.number
number_cond true x y = refl
number_cond false x y = refl

larger_assoc : (a b c : ℤ) → larger (larger a b) c ≡ larger a (larger b c)
larger_assoc a b c = grind (arith, ints)

smaller_assoc : (a b c : ℤ) → smaller (smaller a b) c ≡ smaller a (smaller b c)
smaller_assoc a b c = grind (arith, ints)

larger_comm : (a b : ℤ) → larger a b ≡ larger b a
larger_comm a b = grind (arith, ints)

smaller_comm : (a b : ℤ) → smaller a b ≡ smaller b a
smaller_comm a b = grind (arith, ints)

larger_smaller : (a b c : ℤ) → larger a (smaller b c) ≡ smaller (larger a b) (larger a c)
larger_smaller a b c = grind (arith, ints)

smaller_larger : (a b c : ℤ) → smaller a (larger b c) ≡ larger (smaller a b) (smaller a c)
smaller_larger a b c = grind (arith, ints)

larger_absorbs : (a b : ℤ) → larger a (smaller a b) ≡ a
larger_absorbs a b = grind (arith, ints)

smaller_absorbs : (a b : ℤ) → smaller a (larger a b) ≡ a
smaller_absorbs a b = grind (arith, ints)

larger_least : (z : ℤ) → unsigned_abs z ≤ 32767 → larger (negsuc 32766) z ≡ z
larger_least (pos n) h = refl
larger_least (negsuc n) h = grind (arith, ints)

smaller_greatest : (z : ℤ) → unsigned_abs z ≤ 32767 → smaller (pos 32767) z ≡ z
smaller_greatest (pos n) h = grind (arith, ints)
smaller_greatest (negsuc n) h = refl

neg_larger : (a b : ℤ) → neg_ℤ (larger a b) ≡ smaller (neg_ℤ a) (neg_ℤ b)
neg_larger a b = grind (arith, ints)

pub margins_lawful : Lawful margins
margins_lawful = record {
  join_assoc = λ x y z. margin_path _ _ (simp number_cond (larger_assoc x.number y.number z.number));
  meet_assoc = λ x y z. margin_path _ _ (simp number_cond (smaller_assoc x.number y.number z.number));
  join_comm = λ x y. margin_path _ _ (simp number_cond (larger_comm x.number y.number));
  meet_comm = λ x y. margin_path _ _ (simp number_cond (smaller_comm x.number y.number));
  join_meet = λ x y z. margin_path _ _ (simp number_cond (larger_smaller x.number y.number z.number));
  meet_join = λ x y z. margin_path _ _ (simp number_cond (smaller_larger x.number y.number z.number));
  join_absorbs = λ x y. margin_path _ _ (simp number_cond (larger_absorbs x.number y.number));
  meet_absorbs = λ x y. margin_path _ _ (simp number_cond (smaller_absorbs x.number y.number));
  worst_join = λ x. margin_path _ _ (simp number_cond (larger_least x.number x.within));
  best_meet = λ x. margin_path _ _ (simp number_cond (smaller_greatest x.number x.within));
  apart = λ e. pos-ne-negsuc 32767 32766 (sym (ap (λ (x : Margin). x.number) e));
  opposite_twice = λ x. margin_path _ _ (neg_ℤ-neg_ℤ x.number);
  opposite_join = λ x y. margin_path _ _ (simp number_cond (neg_larger x.number y.number));
  opposite_pending = margin_path _ _ refl;
}

-- a margin's number fits its sixteen bits
number_fits : (z : ℤ) → unsigned_abs z ≤ 32767 → FitsSigned w16 z
number_fits (pos n) h = record { sfits = omega arith }
number_fits (negsuc n) h = record { sfits = omega arith }

-- margins with the same bits are equal
pub same_bits : (x y : Margin) → T (of_z w16 x.number == of_z w16 y.number) → x ≡ y
same_bits x y h =
    margin_path x y (sym (to_z-of_z w16 x.number (number_fits x.number x.within))
    ∙ ap (to_z w16) (eqb→eq _ _ h)
    ∙ to_z-of_z w16 y.number (number_fits y.number y.within))

-- equal margins have the same bits
pub bits_same : (x y : Margin) → x ≡ y → T (of_z w16 x.number == of_z w16 y.number)
bits_same x y e = rw e (eqb_refl _)

-- numbers of at most 32,767 with the same two's complement are equal
from_bits : (a b : ℤ) → unsigned_abs a ≤ 32767 → unsigned_abs b ≤ 32767 → sixteen_bits a ≡ sixteen_bits b → a ≡ b
from_bits (pos m) (pos n) h k e = ap pos e
from_bits (pos m) (negsuc n) h k e = absurd (omega arith)
from_bits (negsuc m) (pos n) h k e = absurd (omega arith)
from_bits (negsuc m) (negsuc n) h k e = ap negsuc (omega arith)

pub margins_sound : Sound margin_coding
margins_sound = record {
  one_byte = lit< tt;
  some_width = lit≤ tt;
  small_width = lit≤ tt;
  same_width = λ x. refl;
  faithful = λ x y e.
      let high : sixteen_bits x.number / 256 ≡ sixteen_bits y.number / 256 = cc in
      let low : sixteen_bits x.number % 256 ≡ sixteen_bits y.number % 256 = cc in
      margin_path x y (from_bits x.number y.number x.within y.within (omega arith));
}

-- the margin with a margin's number is that margin
pub margin_of_number : (x : Margin) (z : ℤ) → x.number ≡ z → x ≡ margin_of z
margin_of_number x z e = margin_path x (margin_of z) (e ∙ number_of z _ _ refl refl (eq-eqb _ _ (rw (← e) x.odd)) (le-leb _ _ (rw (← e) x.within)))
  where
    number_of : (z : ℤ) (odd small : Bool) (o : nat_eq (unsigned_abs z % 2) 1 ≡ odd) (w : nat_le (unsigned_abs z) 32767 ≡ small)
        → odd ≡ true → small ≡ true → z ≡ (margin_if z odd small o w).number
    number_of z true true o w p q = refl
    number_of z true false o w p q = absurd (false≢true q)
    number_of z false small o w p q = absurd (false≢true p)
