-- A worked card: the summary of a rule, here `Uef01yh02`, after one bit letter with no bit set. Assumes nothing.
use Rattle.std.specs.Prelude.{◌≡◌, ℕ, List, [], ◌∷◌}
use Rattle.format.specs.Bytes.{card_of}
use Rattle.letter.specs.Bits.{bits_heard}
use Rattle.runs.specs.Runs.{Made}
use Rattle.runs.specs.States.{State}
use Rattle.scale.specs.declared.verdict.Verdict.{Verdict}
use Rattle.scale.specs.VerdictCode.{verdict_coding}
use Rattle.scale.specs.Verdicts.{verdicts}
use Rattle.semantics.specs.Examples.{off_until_on}

abbrev pub example_bytes : List ℕ
example_bytes =
    1 ∷ 0 ∷ 9 ∷ 85 ∷ 101 ∷ 102 ∷ 48 ∷ 49 ∷ 121 ∷ 104 ∷ 48 ∷ 50
    ∷ 2 ∷ 0 ∷ 1 ∷ 1
    ∷ 3 ∷ 0 ∷ 4 ∷ 0 ∷ 0 ∷ 0 ∷ 1
    ∷ 4 ∷ 0 ∷ 8 ∷ 0 ∷ 0 ∷ 3 ∷ 3 ∷ 0 ∷ 0 ∷ 3 ∷ 3 ∷ []

abbrev pub ExampleCard : Type 0
ExampleCard = (s : State Verdict) → Made verdicts off_until_on (bits_heard (record { word = 0 }) ∷ []) s
    → card_of verdict_coding s ≡ example_bytes
