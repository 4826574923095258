-- A row as a list, by the halves of its list. Assumes nothing.
use Rattle.std.proofs.Common.{◌≡◌, ℕ, zero, suc, ◌+◌, ◌*◌, ◌^◌, List, ◌++◌, length, get_or, sym, ap, ◌∙◌, ap₂, arith}
use Rattle.std.proofs.Math.Nat.{pow-succ'}
use Rattle.scale.specs.Laws.{Algebra, Lawful}
use Rattle.std.proofs.lemmas.List.{get_or_append_left, get_or-append-add, get_or_read}
use Rattle.cells.specs.RowAt.{listed}
use Rattle.cells.specs.Rows.{at, halved}
use Rattle.cells.proofs.Halves.{at_halved, halved_same}

-- one cell more has twice the corners
pub twice_corners : (n m : ℕ) → n ≡ suc m → 2 ^ n ≡ 2 * 2 ^ m
twice_corners n m h = rw h (pow-succ' 2 m)

module _ {S : Type 0} {A : Algebra S} (L : Lawful A) where
  -- a row of no cells is its one value
  pub one_value : (n : ℕ) (xs : List S) (v : ℕ → S) (x : S) → n ≡ 0 → length xs ≡ 2 ^ n → x ≡ get_or xs 0 x → x ≡ at A n (listed A xs) v
  unfolding halved
  one_value zero xs v x z e read = get_or_read xs 0 x (omega arith) read A.worst ∙ sym (at_halved A L 0 (listed A xs) v)
  one_value (suc n) xs v x z e read = absurd (omega arith)

  halved_more : (n : ℕ) (low high : List S) (v : ℕ → S) → length low ≡ 2 ^ n
      → halved A (suc n) (listed A (low ++ high)) v ≡ A.join (halved A n (listed A low) v) (A.meet (v n) (halved A n (listed A high) v))
  unfolding halved
  halved_more n low high v e = ap₂ (λ x y. A.join x (A.meet (v n) y))
      (halved_same L n _ _ v (λ c l. get_or_append_left low high A.worst c (omega arith)))
      (halved_same L n _ _ v (λ c l. ap (λ m. listed A (low ++ high) (m + c)) (sym e) ∙ get_or-append-add low high c A.worst))

  -- a row of one cell more, from its halves and the value of its last cell
  pub from_halves : (n m : ℕ) (xs low high : List S) (v : ℕ → S) (x y p q : S) → n ≡ suc m → xs ≡ low ++ high → length low ≡ 2 ^ m
      → p ≡ at A m (listed A low) v → q ≡ at A m (listed A high) v → y ≡ v m → x ≡ A.join p (A.meet y q)
      → x ≡ at A n (listed A xs) v
  from_halves n m xs low high v x y p q more is e without with_it last joined = rw (more, is) (joined
      ∙ (ap₂ A.join (without ∙ at_halved A L m _ v) (ap₂ A.meet last (with_it ∙ at_halved A L m _ v))
      ∙ (sym (halved_more m low high v e) ∙ sym (at_halved A L (suc m) _ v))))
