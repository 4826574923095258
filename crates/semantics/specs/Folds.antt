-- Joins and meets over a range of positions. Assumes nothing.
use Rattle.std.specs.Prelude.{ℕ, zero, suc, ◌+◌, ◌-◌}
use Rattle.scale.specs.Laws.{Algebra}

-- the join of f at the count positions from the first one on; worst over none
unfoldable pub joined : {S : Type 0} → Algebra S → ℕ → ℕ → (ℕ → S) → S
joined A first zero f = A.worst
joined A first (suc count) f = A.join (joined A first count f) (f (first + count))

-- the meet of f at the count positions from the first one on; best over none
unfoldable pub met : {S : Type 0} → Algebra S → ℕ → ℕ → (ℕ → S) → S
met A first zero f = A.best
met A first (suc count) f = A.meet (met A first count f) (f (first + count))

-- the join of f over low ≤ k < high
abbrev pub join_over : {S : Type 0} → Algebra S → ℕ → ℕ → (ℕ → S) → S
join_over A low high f = joined A low (high - low) f

-- the meet of f over low ≤ k < high
abbrev pub meet_over : {S : Type 0} → Algebra S → ℕ → ℕ → (ℕ → S) → S
meet_over A low high f = met A low (high - low) f
