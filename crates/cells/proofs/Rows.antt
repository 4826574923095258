-- The laws of rows: what joins and meets make of cells is its row, and rows after one another. Assumes nothing.
use Rattle.std.proofs.Common.{◌≡◌, ℕ, zero, suc, ◌+◌, ◌^◌, ◌<◌, ◌≤◌, Bool, true, false, cond, ltb, sym, refl, ap, ◌∙◌, ⊎_elim, arith}
use Rattle.scale.specs.Laws.{Algebra, Lawful, Below}
use Rattle.scale.proofs.Lattice.{below_refl, worst_below}
use Rattle.std.proofs.lemmas.Bool.{cases_order, cond-true, cond-false, lt-ltb, le-ltb}
use Rattle.cells.specs.Rows.{has, at_corner, at, halved, Rises, AllRise, Made, fixed, cell, joins, meets, made_of, Within, RowLaws}
use Rattle.cells.proofs.Corners.{has_not, has_last, has_other, has_all}
use Rattle.cells.proofs.Blends.{Blend, Smooth, blend_fixed, blend_cell, blend_join, blend_meet, smooth_rises, smooth_same}
use Rattle.cells.proofs.Halves.{at_halved, halved_smooth, halved_same, halved_linear, halved_worst, halved_entry}

module _ {S : Type 0} (A : Algebra S) where
  -- the corner's values at the first m cells, v at the others
  abbrev mixed : (ℕ → S) → ℕ → ℕ → ℕ → S
  mixed v m c k = cond (ltb k m) (at_corner A c k) (v k)

  mixed_first : (v : ℕ → S) (m c k : ℕ) → k < m → mixed v m c k ≡ at_corner A c k
  mixed_first v m c k l = cond-true _ _ _ (lt-ltb k m l)

  mixed_rest : (v : ℕ → S) (m c k : ℕ) → m ≤ k → mixed v m c k ≡ v k
  mixed_rest v m c k l = cond-false _ _ _ (le-ltb k m l)

module _ {S : Type 0} {A : Algebra S} (L : Lawful A) where
  made_smooth : (n : ℕ) (p : Made S) → Within n p → Smooth A n (made_of A p)
  made_smooth n (fixed y) i x u v w h = blend_fixed L x y
  made_smooth n (cell k) i x u v w h = h k i
  made_smooth n (joins p q) i x u v w h = blend_join L (made_smooth n p i.0 x u v w h) (made_smooth n q i.1 x u v w h)
  made_smooth n (meets p q) i x u v w h = blend_meet L (made_smooth n p i.0 x u v w h) (made_smooth n q i.1 x u v w h)

  blend_as : {x a b c d e f : S} → Blend A x d e f → a ≡ d → b ≡ e → c ≡ f → Blend A x a b c
  blend_as s p q r = rw (p, q, r) s

  -- one cell more from v to the corner
  mixed_blend : (v : ℕ → S) (m c : ℕ) → c < 2 ^ m → (k : ℕ) → Blend A (v m) (mixed A v (suc m) c k) (mixed A v m c k) (mixed A v (suc m) (2 ^ m + c) k)
  mixed_blend v m c h k = ⊎_elim
      (λ e. rw e (blend_as (blend_cell L (v m))
      (mixed_first A v (suc m) c m (omega arith) ∙ cond-false _ _ _ (has_not m c h)) (mixed_rest A v m c m (omega arith))
      (mixed_first A v (suc m) (2 ^ m + c) m (omega arith) ∙ cond-true _ _ _ (has_last m c h))))
      (⊎_elim (λ l. blend_as (blend_fixed L (v m) (at_corner A c k)) (mixed_first A v (suc m) c k (omega arith)) (mixed_first A v m c k l)
      (mixed_first A v (suc m) (2 ^ m + c) k (omega arith) ∙ ap (λ b. cond b A.best A.worst) (has_other m c k l)))
      (λ l. blend_as (blend_fixed L (v m) (v k)) (mixed_rest A v (suc m) c k l) (mixed_rest A v m c k (omega arith)) (mixed_rest A v (suc m) (2 ^ m + c) k l)))
      (cases_order k m)

  module _ {n : ℕ} {F : (ℕ → S) → S} (smooth : Smooth A n F) where
    smooth_mixed : (v : ℕ → S) (m : ℕ) → F v ≡ halved A m (λ c. F (mixed A v m c)) v
    unfolding halved
    smooth_mixed v zero = smooth_same L smooth v (mixed A v 0 0) (λ k l. sym (mixed_rest A v 0 0 k (omega arith)))
    smooth_mixed v (suc m) = smooth_mixed v m ∙ (halved_same L m _ _ v (λ c l. (smooth (v m) _ _ _ (λ k h. mixed_blend v m c l k)).1)
        ∙ halved_linear L m (λ c. F (mixed A v (suc m) c)) (λ c. F (mixed A v (suc m) (2 ^ m + c))) v (v m))

    -- what keeps blends is its row, and that row rises
    pub smooth_row : (v : ℕ → S) → F v ≡ at A n (λ c. F (at_corner A c)) v
    smooth_row v = smooth_mixed v n ∙ (halved_same L n _ _ v (λ c l. smooth_same L smooth _ _ (λ k h. mixed_first A v n c k h))
        ∙ sym (at_halved A L n _ v))

    pub smooth_row_rises : Rises A n (λ c. F (at_corner A c))
    smooth_row_rises c d h l i = smooth_rises L smooth _ _ (λ k m. narrower (has c k) (has d k) (i k m))
      where
        narrower : (a b : Bool) → (a ≡ true → b ≡ true) → Below A (cond a A.best A.worst) (cond b A.best A.worst)
        narrower false b e = worst_below L _
        narrower true b e = rw (e refl) (below_refl L _)

  module _ (n : ℕ) where
    at_smooth : (row : ℕ → S) → Smooth A n (at A n row)
    at_smooth row x u v w h = blend_as (halved_smooth L n row x u v w h) (at_halved A L n row u) (at_halved A L n row v) (at_halved A L n row w)

    at_entry : (row : ℕ → S) → Rises A n row → (c : ℕ) → c < 2 ^ n → at A n row (at_corner A c) ≡ row c
    at_entry row r c h = at_halved A L n row _ ∙ halved_entry L n row r c h

    at_best : (row : ℕ → S) → Rises A n row → (last : ℕ) → suc last ≡ 2 ^ n → at A n row (λ k. A.best) ≡ row last
    at_best row r last e = smooth_same L (at_smooth row) _ _ (λ k l. sym (cond-true _ _ _ (has_all n last k e l)))
        ∙ at_entry row r last (omega arith)

    composed : (row : ℕ → S) (Q : ℕ → ℕ → S) (v : ℕ → S) → AllRise A n Q
        → at A n (λ c. at A n row (λ j. Q j c)) v ≡ at A n row (λ j. at A n (Q j) v)
    composed row Q v q = at_halved A L n _ v ∙ (halved_same L n _ _ v
        (λ c h. sym (smooth_same L (at_smooth row) _ _ (λ j l. at_entry (Q j) (q j l) c h)))
        ∙ (sym (at_halved A L n _ v) ∙ sym (smooth_row within v)))
      where
        within : Smooth A n (λ u. at A n row (λ j. at A n (Q j) u))
        within x u v w h = at_smooth row x _ _ _ (λ j l. at_smooth (Q j) x u v w h)

    determined : (p : Made S) → Within n p → (v : ℕ → S) → made_of A p v ≡ at A n (λ c. made_of A p (at_corner A c)) v
    determined p i = smooth_row (made_smooth n p i)

    made_rises : (p : Made S) → Within n p → Rises A n (λ c. made_of A p (at_corner A c))
    made_rises p i = smooth_row_rises (made_smooth n p i)

  -- every lawful scale has the laws of rows
  pub row_laws : (n : ℕ) → RowLaws A n
  row_laws n = record {
    by_halves = at_halved A L n;
    determined = determined n;
    made_rises = made_rises n;
    at_entry = at_entry n;
    at_worst = λ row. at_halved A L n row _ ∙ halved_worst L n row;
    at_best = at_best n;
    followed_rises = λ P Q p q k h c d l m i. smooth_rises L (at_smooth n (P k)) _ _ (λ j s. q j s c d l m i);
    composed = λ row Q v r q. composed n row Q v q;
    associative = λ P Q R p q r k c h l. composed n (P k) Q (λ j. R j c) q;
    empty_first = λ P k c h. sym (determined n (cell k) h (λ j. P j c));
    empty_last = λ P p k c h l. at_entry n (P k) (p k h) c l;
    empty_rises = λ k h. made_rises n (cell k) h;
  }
