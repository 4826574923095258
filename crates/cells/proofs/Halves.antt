-- A row by halving: the join over corners, smooth in its cells, linear in its entries, and at a corner its entry. Assumes nothing.
use Rattle.std.proofs.Common.{◌≡◌, ℕ, zero, suc, ◌+◌, ◌-◌, ◌^◌, ◌<◌, ◌≤◌, cond, sym, refl, ap, ◌∙◌, subst, ap₂, ⊎_elim, arith}
use Rattle.scale.specs.Laws.{Algebra, Lawful, Below}
use Rattle.scale.proofs.Lattice.{join_worst, worst_meet, meet_best, below_left, below_right, below_antisym, either_below, into_left, into_right, below_both, from_first, from_second, meet_rises, below_refl, meet_either_below}
use Rattle.semantics.specs.Folds.{joined, met}
use Rattle.semantics.proofs.Bounds.{join_over_same, meet_over_same}
use Rattle.semantics.proofs.Ranges.{meet_over_join, join_over_split}
use Rattle.std.proofs.lemmas.Nat.{pow_pos}
use Rattle.std.proofs.lemmas.Bool.{cases_lt, cond-true, cond-false}
use Rattle.cells.specs.Rows.{has, at_corner, of_corner, at, halved, Rises}
use Rattle.cells.proofs.Corners.{has_not, has_last, has_other, inside_low, inside_high, inside_more}
use Rattle.cells.proofs.Blends.{Smooth, blend_fixed, blend_join, blend_meet, smooth_same}

module _ {S : Type 0} (A : Algebra S) where
  joined_shift : (first count : ℕ) (f : ℕ → S) → joined A first count f ≡ joined A 0 count (λ k. f (first + k))
  unfolding joined
  joined_shift first zero f = refl
  joined_shift first (suc count) f = ap₂ A.join (joined_shift first count f) (ap (λ k. f (first + k)) (omega arith))

  -- the meet over a corner of one cell more
  of_more : (n : ℕ) (v : ℕ → S) (c : ℕ) → of_corner A (suc n) v c ≡ A.meet (of_corner A n v c) (cond (has c n) (v n) A.best)
  unfolding met
  of_more n v c = ap (λ m. met A 0 m f) whole ∙ ap₂ (λ m k. A.meet (met A 0 m f) (f k)) less next
    where
      f : ℕ → S
      f k = cond (has c k) (v k) A.best

      whole : suc n - 0 ≡ suc n
      whole = omega arith

      less : n ≡ n - 0
      less = omega arith

      next : 0 + n ≡ n
      next = omega arith

  module _ (L : Lawful A) where
    of_low : (n : ℕ) (v : ℕ → S) (c : ℕ) → c < 2 ^ n → of_corner A (suc n) v c ≡ of_corner A n v c
    of_low n v c h = of_more n v c ∙ (ap (A.meet (of_corner A n v c)) (cond-false _ _ _ (has_not n c h)) ∙ meet_best L _)

    of_high : (n : ℕ) (v : ℕ → S) (c : ℕ) → c < 2 ^ n → of_corner A (suc n) v (2 ^ n + c) ≡ A.meet (of_corner A n v c) (v n)
    of_high n v c h = of_more n v (2 ^ n + c) ∙ ap₂ A.meet
        (meet_over_same A 0 n _ _ (λ k l m. ap (λ b. cond b (v k) A.best) (has_other n c k m)))
        (cond-true _ _ _ (has_last n c h))

    last_first : (x y z : S) → A.meet x (A.meet y z) ≡ A.meet z (A.meet x y)
    last_first x y z = sym (L.meet_assoc x y z) ∙ L.meet_comm (A.meet x y) z

    at_none : (row v : ℕ → S) → at A 0 row v ≡ row 0
    unfolding at joined met
    at_none row v = L.worst_join _ ∙ meet_best L (row 0)

    at_more : (n : ℕ) (row v : ℕ → S) → at A (suc n) row v ≡ A.join (at A n row v) (A.meet (v n) (at A n (λ c. row (2 ^ n + c)) v))
    unfolding at
    at_more n row v = join_over_split L 0 (2 ^ n) (2 ^ suc n) entry (omega arith) (omega arith) ∙ ap₂ A.join
        (join_over_same A 0 (2 ^ n) _ _ (λ c l h. ap (A.meet (row c)) (of_low n v c h)))
        (ap (λ m. joined A (2 ^ n) m entry) half ∙ (joined_shift (2 ^ n) (2 ^ n - 0) entry
        ∙ (join_over_same A 0 (2 ^ n) _ _ (λ c l h. ap (A.meet (row (2 ^ n + c))) (of_high n v c h) ∙ last_first _ _ _)
        ∙ sym (meet_over_join L 0 (2 ^ n) _ (v n)))))
      where
        entry : ℕ → S
        entry c = A.meet (row c) (of_corner A (suc n) v c)

        half : 2 ^ suc n - 2 ^ n ≡ 2 ^ n - 0
        half = omega arith

    pub at_halved : (n : ℕ) (row v : ℕ → S) → at A n row v ≡ halved A n row v
    unfolding halved
    at_halved zero row v = at_none row v
    at_halved (suc n) row v = at_more n row v
        ∙ ap₂ (λ x y. A.join x (A.meet (v n) y)) (at_halved n row v) (at_halved n (λ c. row (2 ^ n + c)) v)

module _ {S : Type 0} {A : Algebra S} (L : Lawful A) where
  pub halved_smooth : (n : ℕ) (row : ℕ → S) → Smooth A n (halved A n row)
  unfolding halved
  halved_smooth zero row x u v w h = blend_fixed L x (row 0)
  halved_smooth (suc n) row x u v w h = blend_join L (halved_smooth n row x u v w (λ k l. h k (omega arith)))
      (blend_meet L (h n (omega arith)) (halved_smooth n (λ c. row (2 ^ n + c)) x u v w (λ k l. h k (omega arith))))

  -- only the entries of the corners of n cells count
  pub halved_same : (n : ℕ) (f g v : ℕ → S) → ((c : ℕ) → c < 2 ^ n → f c ≡ g c) → halved A n f v ≡ halved A n g v
  unfolding halved
  halved_same zero f g v h = h 0 (pow_pos 0)
  halved_same (suc n) f g v h = ap₂ (λ x y. A.join x (A.meet (v n) y)) (halved_same n f g v (λ c l. h c (omega arith)))
      (halved_same n _ _ v (λ c l. h (2 ^ n + c) (omega arith)))

  crossed : (x y a b c d : S) → Below A (A.join (A.join a (A.meet x b)) (A.meet y (A.join c (A.meet x d))))
      (A.join (A.join a (A.meet y c)) (A.meet x (A.join b (A.meet y d))))
  crossed x y a b c d = either_below L (either_below L (into_left L _ (below_left L a _)) (into_right L _ (meet_rises L (below_refl L x) (below_left L b _))))
      (meet_either_below L (into_left L _ (below_right L a _)) (into_right L _
      (below_both L (from_second L y (from_first L d (below_refl L x))) (into_right L b (meet_rises L (below_refl L y) (from_second L x (below_refl L d)))))))

  pub halved_linear : (n : ℕ) (f g v : ℕ → S) (x : S)
      → halved A n (λ c. A.join (f c) (A.meet x (g c))) v ≡ A.join (halved A n f v) (A.meet x (halved A n g v))
  unfolding halved
  halved_linear zero f g v x = refl
  halved_linear (suc n) f g v x = ap₂ (λ p q. A.join p (A.meet (v n) q)) (halved_linear n f g v x)
      (halved_linear n (λ c. f (2 ^ n + c)) (λ c. g (2 ^ n + c)) v x) ∙ below_antisym L (crossed x (v n) _ _ _ _) (crossed (v n) x _ _ _ _)

  pub halved_worst : (n : ℕ) (row : ℕ → S) → halved A n row (λ k. A.worst) ≡ row 0
  unfolding halved
  halved_worst zero row = refl
  halved_worst (suc n) row = ap (A.join _) (worst_meet L _) ∙ (join_worst L _ ∙ halved_worst n row)

  -- both halves of a rising row rise
  rises_low : (n : ℕ) (row : ℕ → S) → Rises A (suc n) row → Rises A n row
  rises_low n row r c d h l i = r c d (omega arith) (omega arith) (inside_low n c d h i)

  rises_high : (n : ℕ) (row : ℕ → S) → Rises A (suc n) row → Rises A n (λ c. row (2 ^ n + c))
  rises_high n row r c d h l i = r (2 ^ n + c) (2 ^ n + d) (omega arith) (omega arith) (inside_high n c d l i)

  meet_none : {x : S} (y : S) → x ≡ A.worst → A.meet x y ≡ A.worst
  meet_none y e = ap (λ x. A.meet x y) e ∙ worst_meet L y

  meet_all : {x : S} (y : S) → x ≡ A.best → A.meet x y ≡ y
  meet_all y e = ap (λ x. A.meet x y) e ∙ L.best_meet y

  -- at a corner of n cells, and with cell n added
  halved_low : (n : ℕ) (row : ℕ → S) (c : ℕ) → c < 2 ^ n → halved A (suc n) row (at_corner A c) ≡ halved A n row (at_corner A c)
  unfolding halved
  halved_low n row c h = ap (A.join _) (meet_none _ (cond-false _ _ _ (has_not n c h))) ∙ join_worst L _

  halved_high : (n : ℕ) (row : ℕ → S) (c : ℕ) → c < 2 ^ n → halved A (suc n) row (at_corner A (2 ^ n + c))
      ≡ A.join (halved A n row (at_corner A c)) (halved A n (λ d. row (2 ^ n + d)) (at_corner A c))
  unfolding halved
  halved_high n row c h = ap₂ A.join (kept row) (meet_all _ (cond-true _ _ _ (has_last n c h)) ∙ kept (λ d. row (2 ^ n + d)))
    where
      kept : (entries : ℕ → S) → halved A n entries (at_corner A (2 ^ n + c)) ≡ halved A n entries (at_corner A c)
      kept entries = smooth_same L (halved_smooth n entries) _ _ (λ k l. ap (λ b. cond b A.best A.worst) (has_other n c k l))

  high_entry : (n : ℕ) (row : ℕ → S) → Rises A (suc n) row → (c : ℕ) → c < 2 ^ n
      → halved A n row (at_corner A c) ≡ row c → halved A n (λ d. row (2 ^ n + d)) (at_corner A c) ≡ row (2 ^ n + c)
      → halved A (suc n) row (at_corner A (2 ^ n + c)) ≡ row (2 ^ n + c)
  high_entry n row r c h p q = halved_high n row c h ∙ (ap₂ A.join p q ∙ r c (2 ^ n + c) (omega arith) (omega arith) (inside_more n c h))

  -- a rising row at a corner is its entry
  pub halved_entry : (n : ℕ) (row : ℕ → S) → Rises A n row → (c : ℕ) → c < 2 ^ n → halved A n row (at_corner A c) ≡ row c
  unfolding halved
  halved_entry zero row r c h = ap row none
    where
      none : 0 ≡ c
      none = omega arith
  halved_entry (suc n) row r c h = ⊎_elim (λ l. halved_low n row c l ∙ halved_entry n row (rises_low n row r) c l)
      (λ l. subst (λ x. halved A (suc n) row (at_corner A x) ≡ row x) (whole l) (high_entry n row r (c - 2 ^ n) (less l)
      (halved_entry n row (rises_low n row r) (c - 2 ^ n) (less l))
      (halved_entry n (λ d. row (2 ^ n + d)) (rises_high n row r) (c - 2 ^ n) (less l)))) (cases_lt c (2 ^ n))
    where
      whole : 2 ^ n ≤ c → 2 ^ n + (c - 2 ^ n) ≡ c
      whole l = omega arith

      less : 2 ^ n ≤ c → c - 2 ^ n < 2 ^ n
      less l = omega arith
