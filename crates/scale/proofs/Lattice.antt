-- What follows from the laws of a scale: units and zeros, the opposite of each operation, and the order. Assumes nothing.
use Rattle.std.proofs.Common.{◌≡◌, sym, ap, ◌∙◌, ap₂}
use Rattle.scale.specs.Laws.{Algebra, Lawful, Below}

module _ {S : Type 0} {A : Algebra S} (L : Lawful A) where
  pub join_idem : (x : S) → A.join x x ≡ x
  join_idem x = ap (A.join x) (sym (L.meet_absorbs x x)) ∙ L.join_absorbs x (A.join x x)

  pub meet_idem : (x : S) → A.meet x x ≡ x
  meet_idem x = ap (A.meet x) (sym (L.join_absorbs x x)) ∙ L.meet_absorbs x (A.meet x x)

  pub join_worst : (x : S) → A.join x A.worst ≡ x
  join_worst x = L.join_comm x A.worst ∙ L.worst_join x

  pub meet_best : (x : S) → A.meet x A.best ≡ x
  meet_best x = L.meet_comm x A.best ∙ L.best_meet x

  pub best_join : (x : S) → A.join A.best x ≡ A.best
  best_join x = sym (L.best_meet (A.join A.best x)) ∙ L.meet_absorbs A.best x

  pub join_best : (x : S) → A.join x A.best ≡ A.best
  join_best x = L.join_comm x A.best ∙ best_join x

  pub worst_meet : (x : S) → A.meet A.worst x ≡ A.worst
  worst_meet x = sym (L.worst_join (A.meet A.worst x)) ∙ L.join_absorbs A.worst x

  pub meet_worst : (x : S) → A.meet x A.worst ≡ A.worst
  meet_worst x = L.meet_comm x A.worst ∙ worst_meet x

  pub opposite_meet : (x y : S) → A.opposite (A.meet x y) ≡ A.join (A.opposite x) (A.opposite y)
  opposite_meet x y = ap A.opposite (ap₂ A.meet (sym (L.opposite_twice x)) (sym (L.opposite_twice y))
      ∙ sym (L.opposite_join (A.opposite x) (A.opposite y)))
      ∙ L.opposite_twice (A.join (A.opposite x) (A.opposite y))

  pub opposite_worst : A.opposite A.worst ≡ A.best
  opposite_worst = sym (L.best_meet (A.opposite A.worst))
      ∙ (ap (λ x. A.meet x (A.opposite A.worst)) (sym (L.opposite_twice A.best))
      ∙ (sym (L.opposite_join (A.opposite A.best) A.worst)
      ∙ (ap A.opposite (join_worst (A.opposite A.best)) ∙ L.opposite_twice A.best)))

  pub opposite_best : A.opposite A.best ≡ A.worst
  opposite_best = ap A.opposite (sym opposite_worst) ∙ L.opposite_twice A.worst

  pub opposite_presumed : A.opposite A.presumed ≡ A.pending
  opposite_presumed = ap A.opposite (sym L.opposite_pending) ∙ L.opposite_twice A.pending

  -- the order
  pub below_refl : (x : S) → Below A x x
  below_refl x = join_idem x

  pub below_same : {x y : S} → x ≡ y → Below A x y
  below_same {x} {y} e = ap (λ z. A.join z y) e ∙ join_idem y

  pub below_trans : {x y z : S} → Below A x y → Below A y z → Below A x z
  below_trans {x} {y} {z} p q = ap (A.join x) (sym q) ∙ (sym (L.join_assoc x y z) ∙ (ap (λ w. A.join w z) p ∙ q))

  pub below_antisym : {x y : S} → Below A x y → Below A y x → x ≡ y
  below_antisym {x} {y} p q = sym q ∙ (L.join_comm y x ∙ p)

  pub worst_below : (x : S) → Below A A.worst x
  worst_below x = L.worst_join x

  pub below_best : (x : S) → Below A x A.best
  below_best x = join_best x

  -- join is the least upper bound
  pub below_left : (x y : S) → Below A x (A.join x y)
  below_left x y = sym (L.join_assoc x x y) ∙ ap (λ z. A.join z y) (join_idem x)

  pub below_right : (x y : S) → Below A y (A.join x y)
  below_right x y = below_trans (below_left y x) (below_same (L.join_comm y x))

  pub either_below : {x y z : S} → Below A x z → Below A y z → Below A (A.join x y) z
  either_below {x} {y} {z} p q = L.join_assoc x y z ∙ (ap (A.join x) q ∙ p)

  pub into_left : {x y : S} (z : S) → Below A x y → Below A x (A.join y z)
  into_left {x} {y} z p = below_trans p (below_left y z)

  pub into_right : {x z : S} (y : S) → Below A x z → Below A x (A.join y z)
  into_right {x} {z} y p = below_trans p (below_right y z)

  -- meet is the greatest lower bound
  pub first_below : (x y : S) → Below A (A.meet x y) x
  first_below x y = L.join_comm (A.meet x y) x ∙ L.join_absorbs x y

  pub second_below : (x y : S) → Below A (A.meet x y) y
  second_below x y = below_trans (below_same (L.meet_comm x y)) (first_below y x)

  pub below_both : {x y z : S} → Below A z x → Below A z y → Below A z (A.meet x y)
  below_both {x} {y} {z} p q = L.join_meet z x y ∙ ap₂ A.meet p q

  pub from_first : {x z : S} (y : S) → Below A x z → Below A (A.meet x y) z
  from_first {x} {z} y p = below_trans (first_below x y) p

  pub from_second : {y z : S} (x : S) → Below A y z → Below A (A.meet x y) z
  from_second {y} {z} x p = below_trans (second_below x y) p

  -- join and meet rise, opposite falls
  pub join_rises : {x y z w : S} → Below A x z → Below A y w → Below A (A.join x y) (A.join z w)
  join_rises {x} {y} {z} {w} p q = either_below (into_left w p) (into_right z q)

  pub meet_rises : {x y z w : S} → Below A x z → Below A y w → Below A (A.meet x y) (A.meet z w)
  meet_rises {x} {y} {z} {w} p q = below_both (from_first y p) (from_second x q)

  pub opposite_falls : {x y : S} → Below A x y → Below A (A.opposite y) (A.opposite x)
  opposite_falls {x} {y} p = below_trans (below_same (ap A.opposite (sym p) ∙ L.opposite_join x y)) (first_below (A.opposite x) (A.opposite y))

  -- a meet turned round, and a meet of three grouped either way
  pub turned : {x y z : S} → Below A (A.meet y x) z → Below A (A.meet x y) z
  turned {x} {y} p = below_trans (below_same (L.meet_comm x y)) p

  pub regrouped_right : {x y w z : S} → Below A (A.meet x (A.meet y w)) z → Below A (A.meet (A.meet x y) w) z
  regrouped_right {x} {y} {w} p = below_trans (below_same (L.meet_assoc x y w)) p

  pub regrouped_left : {x y w z : S} → Below A (A.meet (A.meet x y) w) z → Below A (A.meet x (A.meet y w)) z
  regrouped_left {x} {y} {w} p = below_trans (below_same (sym (L.meet_assoc x y w))) p

  -- a meet with a join, by cases
  pub meet_either_below : {x y w z : S} → Below A (A.meet w x) z → Below A (A.meet w y) z → Below A (A.meet w (A.join x y)) z
  meet_either_below {x} {y} {w} p q = below_trans (below_same (L.meet_join w x y)) (either_below p q)

  pub either_meet_below : {x y w z : S} → Below A (A.meet x w) z → Below A (A.meet y w) z → Below A (A.meet (A.join x y) w) z
  either_meet_below p q = turned (meet_either_below (turned p) (turned q))

-- the rules that close a statement of order by `search`
pub ruleset below_rules = (below_refl, worst_below, below_best, either_below, below_both, into_left, into_right, from_first, from_second)
