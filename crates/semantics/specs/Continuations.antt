-- What a settled report says of every endless continuation of its log. Assumes nothing.
use Rattle.std.specs.Prelude.{◌≡◌, ℕ, ◌<◌, ◌⊎◌, List, map, length, slice_index_or}
use Rattle.letter.specs.Bits.{bits_heard}
use Rattle.letter.specs.declared.bits.Bits.{Bits}
use Rattle.letter.specs.Heard.{Heard}
use Rattle.rule.specs.declared.leaf.Test.{Test}
use Rattle.rule.specs.Tree.{Rule}
use Rattle.scale.specs.declared.verdict.Verdict.{Verdict}
use Rattle.scale.specs.declared.verdict.Verdict.TheVariants.{Broken, Kept}
use Rattle.scale.specs.Laws.{Algebra}
use Rattle.scale.specs.Verdicts.{verdicts}
use Rattle.semantics.specs.Endless.{Holds}
use Rattle.semantics.specs.Reports.{test_on, letter_at, verdict, floor, ceiling}

-- a scale that settles: a join is best only if a part is, a meet is worst only if a part is, pending and presumed are
-- neither best nor worst, and whether a value is best or worst can be told
pub record Settling {S : Type 0} (A : Algebra S) : Type 0 where
  pub join_best : (x y : S) → A.join x y ≡ A.best → (x ≡ A.best) ⊎ (y ≡ A.best)
  pub meet_worst : (x y : S) → A.meet x y ≡ A.worst → (x ≡ A.worst) ⊎ (y ≡ A.worst)
  pub pending_best : A.pending ≡ A.best → ⊥
  pub pending_worst : A.pending ≡ A.worst → ⊥
  pub presumed_best : A.presumed ≡ A.best → ⊥
  pub presumed_worst : A.presumed ≡ A.worst → ⊥
  pub best_told : (x : S) → Dec (x ≡ A.best)
  pub worst_told : (x : S) → Dec (x ≡ A.worst)

-- what a test is worth on each letter of an endless log
abbrev pub value_along : {S : Type 0} → Algebra S → (ℕ → Heard S) → Test → ℕ → S
value_along A endless t i = test_on A t.channel t.opposite (endless i)

-- the rule holds on an endless log
abbrev pub HoldsOn : {S : Type 0} → Algebra S → Rule → (ℕ → Heard S) → Type 0
HoldsOn A r endless = Holds A (value_along A endless) r 0

-- the endless log begins with the log
abbrev pub Continues : {S : Type 0} → Algebra S → List (Heard S) → (ℕ → Heard S) → Type 0
Continues A log endless = (i : ℕ) → i < length log → endless i ≡ letter_at A log i

-- every channel of every letter is worst or best
abbrev pub Plain : {S : Type 0} → Algebra S → (ℕ → Heard S) → Type 0
Plain A endless = (i c : ℕ) → ((endless i).value c ≡ A.worst) ⊎ ((endless i).value c ≡ A.best)

-- a verdict or floor of best holds on every endless continuation, a verdict or ceiling of worst on none
pub record Settled {S : Type 0} (A : Algebra S) (r : Rule) (log : List (Heard S)) (endless : ℕ → Heard S) : Type 0 where
  pub verdict_best : verdict A r log ≡ A.best → HoldsOn A r endless
  pub verdict_worst : verdict A r log ≡ A.worst → HoldsOn A r endless → ⊥
  pub floor_best : floor A r log ≡ A.best → HoldsOn A r endless
  pub ceiling_worst : ceiling A r log ≡ A.worst → HoldsOn A r endless → ⊥

-- for every scale that settles
abbrev pub Settles : {S : Type 0} → Algebra S → Type 0
Settles {S} A = Settling A → (r : Rule) (log : List (Heard S)) (endless : ℕ → Heard S)
    → 0 < length log → Continues A log endless → Settled A r log endless

-- the endless log of bit letters
abbrev pub heard_along : (ℕ → Bits) → ℕ → Heard Verdict
heard_along endless i = bits_heard (endless i)

-- with bit letters on the verdict scale: kept holds on every endless continuation, broken on none
pub record BitsSettled (r : Rule) (log : List Bits) (endless : ℕ → Bits) : Type 0 where
  pub kept : verdict verdicts r (map bits_heard log) ≡ Kept → HoldsOn verdicts r (heard_along endless)
  pub broken : verdict verdicts r (map bits_heard log) ≡ Broken → HoldsOn verdicts r (heard_along endless) → ⊥

abbrev pub BitsSettle : Type 0
BitsSettle = (r : Rule) (log : List Bits) (endless : ℕ → Bits) → 0 < length log
    → ((i : ℕ) (l : Bits) → i < length log → endless i ≡ slice_index_or log i l) → BitsSettled r log endless
