-- The report on a log: verdict, floor and ceiling of a rule. Assumes nothing.
use Rattle.std.specs.Prelude.{ℕ, Bool, true, false, List, length, Some, None, Option, slice_index_or}
use Rattle.letter.specs.Heard.{Heard}
use Rattle.rule.specs.declared.leaf.Channel.{Channel}
use Rattle.rule.specs.declared.leaf.Test.{Test}
use Rattle.rule.specs.Tree.{Rule}
use Rattle.scale.specs.Laws.{Algebra}
use Rattle.semantics.specs.Marks.{Marks, verdict_marks, floor_marks, ceiling_marks}
use Rattle.semantics.specs.Positions.{worth}

-- a test on one letter: `y` best, `n` worst, `h` the channel's value, `f` its opposite
abbrev pub test_on : {S : Type 0} → Algebra S → Option Channel → Bool → Heard S → S
test_on A None false l = A.best
test_on A None true l = A.worst
test_on A (Some c) false l = l.value c.number
test_on A (Some c) true l = A.opposite (l.value c.number)

-- the letter at a position; past the end, one that says worst
abbrev pub letter_at : {S : Type 0} → Algebra S → List (Heard S) → ℕ → Heard S
letter_at A log i = slice_index_or log i (record { unfit = None; value = λ c. A.worst })

-- what a test is worth on letter i of the log
abbrev pub value_on : {S : Type 0} → Algebra S → List (Heard S) → Test → ℕ → S
value_on A log t i = test_on A t.channel t.opposite (letter_at A log i)

-- V(rule, i) on the log, under the marks
abbrev pub worth_on : {S : Type 0} → Algebra S → Marks S → Rule → List (Heard S) → ℕ → S
worth_on A mark r log i = worth A (value_on A log) (length log) mark false r i

-- the verdict is V(rule, 0); the floor has every mark worst, the ceiling every mark best
abbrev pub verdict : {S : Type 0} → Algebra S → Rule → List (Heard S) → S
verdict A r log = worth_on A (verdict_marks A) r log 0

abbrev pub floor : {S : Type 0} → Algebra S → Rule → List (Heard S) → S
floor A r log = worth_on A (floor_marks A) r log 0

abbrev pub ceiling : {S : Type 0} → Algebra S → Rule → List (Heard S) → S
ceiling A r log = worth_on A (ceiling_marks A) r log 0

-- verdict, floor and ceiling together
abbrev pub report : {S : Type 0} → Algebra S → Rule → List (Heard S) → S × S × S
report A r log = (verdict A r log, floor A r log, ceiling A r log)
