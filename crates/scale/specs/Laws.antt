-- What a scale is: its values and operations, the laws they keep, and the order they give. Assumes nothing.
use Rattle.std.specs.Prelude.{◌≡◌}

-- the four named values of a scale and its operations
pub record Algebra (S : Type 0) : Type 0 where
  pub worst : S
  pub best : S
  pub pending : S
  pub presumed : S
  pub join : S → S → S
  pub meet : S → S → S
  pub opposite : S → S

-- the laws of a scale
pub record Lawful {S : Type 0} (A : Algebra S) : Type 0 where
  pub join_assoc : (x y z : S) → A.join (A.join x y) z ≡ A.join x (A.join y z)
  pub meet_assoc : (x y z : S) → A.meet (A.meet x y) z ≡ A.meet x (A.meet y z)
  pub join_comm : (x y : S) → A.join x y ≡ A.join y x
  pub meet_comm : (x y : S) → A.meet x y ≡ A.meet y x
  pub join_meet : (x y z : S) → A.join x (A.meet y z) ≡ A.meet (A.join x y) (A.join x z)
  pub meet_join : (x y z : S) → A.meet x (A.join y z) ≡ A.join (A.meet x y) (A.meet x z)
  pub join_absorbs : (x y : S) → A.join x (A.meet x y) ≡ x
  pub meet_absorbs : (x y : S) → A.meet x (A.join x y) ≡ x
  pub worst_join : (x : S) → A.join A.worst x ≡ x
  pub best_meet : (x : S) → A.meet A.best x ≡ x
  pub apart : A.worst ≡ A.best → ⊥
  pub opposite_twice : (x : S) → A.opposite (A.opposite x) ≡ x
  pub opposite_join : (x y : S) → A.opposite (A.join x y) ≡ A.meet (A.opposite x) (A.opposite y)
  pub opposite_pending : A.opposite A.pending ≡ A.presumed

-- x lies below y
abbrev pub Below : {S : Type 0} → Algebra S → S → S → Type 0
Below A x y = A.join x y ≡ y
