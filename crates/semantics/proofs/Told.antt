-- What can be told, and what holds if it cannot fail. Assumes nothing.
use Rattle.std.proofs.Common.{Bool, true, false, T, ◌⊎◌, inl, inr, ⊎_elim}

-- what can be told, as a test
abbrev pub told : {X : Type 0} → Dec X → Bool
told (yes x) = true
told (no h) = false

pub told_yes : {X : Type 0} (d : Dec X) → T (told d) → X
told_yes (yes x) t = x
told_yes (no h) t = absurd t

pub yes_told : {X : Type 0} (d : Dec X) → X → T (told d)
yes_told (yes x) y = tt
yes_told (no h) y = h y

pub both_told : {X Y : Type 0} → Dec X → Dec Y → Dec (X × Y)
both_told (yes x) (yes y) = yes (x, y)
both_told (yes x) (no h) = no (λ z. h z.1)
both_told (no h) d = no (λ z. h z.0)

pub none_told : {X : Type 0} → Dec X → Dec (X → ⊥)
none_told (yes x) = no (λ h. h x)
none_told (no h) = yes h

pub either_told : {X Y : Type 0} → Dec X → Dec Y → Dec (X ⊎ Y)
either_told (yes x) d = yes (inl x)
either_told (no h) (yes y) = yes (inr y)
either_told (no h) (no g) = no (⊎_elim h g)

-- what holds if it cannot fail
abbrev pub Stable : Type 0 → Type 0
Stable P = ((P → ⊥) → ⊥) → P

pub told_stable : {X : Type 0} → Dec X → Stable X
told_stable (yes x) n = x
told_stable (no h) n = absurd (n h)

pub test_stable : (b : Bool) → Stable (T b)
test_stable true n = tt
test_stable false n = n (λ t. t)
