-- Blends: b is a, or as far as x allows c above it; what joins and meets make keeps blends. Assumes nothing.
use Rattle.std.proofs.Common.{◌≡◌, ℕ, ◌<◌, sym, ap, ◌∙◌, ap₂}
use Rattle.scale.specs.Laws.{Algebra, Lawful, Below}
use Rattle.scale.proofs.Lattice.{meet_best, below_refl, below_same, below_antisym, worst_below, below_left, below_right, either_below, into_left, into_right, below_both, from_first, from_second, join_rises, meet_rises, meet_either_below, either_meet_below}

abbrev pub Blend : {S : Type 0} → Algebra S → S → S → S → S → Type 0
Blend A x a b c = Below A a c × (b ≡ A.join a (A.meet x c))

-- a function of n cells that keeps blends
abbrev pub Smooth : {S : Type 0} → Algebra S → ℕ → ((ℕ → S) → S) → Type 0
Smooth {S} A n F = (x : S) (u v w : ℕ → S) → ((k : ℕ) → k < n → Blend A x (u k) (v k) (w k)) → Blend A x (F u) (F v) (F w)

module _ {S : Type 0} {A : Algebra S} (L : Lawful A) where
  pub blend_fixed : (x a : S) → Blend A x a a a
  blend_fixed x a = (below_refl L a, sym (ap (A.join a) (L.meet_comm x a) ∙ L.join_absorbs a x))

  pub blend_cell : (x : S) → Blend A x A.worst x A.best
  blend_cell x = (worst_below L A.best, sym (L.worst_join _ ∙ meet_best L x))

  blend_best : {a c : S} → Below A a c → Blend A A.best a c c
  blend_best {a} {c} p = (p, sym (ap (A.join a) (L.best_meet c) ∙ p))

  pub blend_join : {x a b c d e f : S} → Blend A x a b c → Blend A x d e f → Blend A x (A.join a d) (A.join b e) (A.join c f)
  blend_join {x} {a} {b} {c} {d} {e} {f} p q = (
    join_rises L p.0 q.0,
    ap₂ A.join p.1 q.1 ∙ below_antisym L
        (either_below L (join_rises L (below_left L a d) (meet_rises L (below_refl L x) (below_left L c f)))
        (join_rises L (below_right L a d) (meet_rises L (below_refl L x) (below_right L c f))))
        (either_below L (join_rises L (below_left L a _) (below_left L d _))
        (meet_either_below L (into_left L _ (below_right L a _)) (into_right L _ (below_right L d _)))),
  )

  pub blend_meet : {x a b c d e f : S} → Blend A x a b c → Blend A x d e f → Blend A x (A.meet a d) (A.meet b e) (A.meet c f)
  blend_meet {x} {a} {b} {c} {d} {e} {f} p q = (
    meet_rises L p.0 q.0,
    ap₂ A.meet p.1 q.1 ∙ below_antisym L
        (either_meet_below L
        (meet_either_below L (below_left L _ _)
        (into_right L _ (below_both L (from_second L a (from_first L f (below_refl L x))) (meet_rises L p.0 (from_second L x (below_refl L f))))))
        (into_right L _ (below_both L (from_first L _ (from_first L c (below_refl L x)))
        (meet_rises L (from_second L x (below_refl L c)) (either_below L q.0 (from_second L x (below_refl L f)))))))
        (either_below L (meet_rises L (below_left L a _) (below_left L d _))
        (below_both L (into_right L a (meet_rises L (below_refl L x) (from_first L f (below_refl L c))))
        (into_right L d (meet_rises L (below_refl L x) (from_second L c (below_refl L f)))))),
  )

  module _ {n : ℕ} {F : (ℕ → S) → S} (smooth : Smooth A n F) where
    pub smooth_rises : (u w : ℕ → S) → ((k : ℕ) → k < n → Below A (u k) (w k)) → Below A (F u) (F w)
    smooth_rises u w h = (smooth A.best u w w (λ k l. blend_best (h k l))).0

    pub smooth_same : (u w : ℕ → S) → ((k : ℕ) → k < n → u k ≡ w k) → F u ≡ F w
    smooth_same u w h = below_antisym L (smooth_rises u w (λ k l. below_same L (h k l))) (smooth_rises w u (λ k l. below_same L (sym (h k l))))
