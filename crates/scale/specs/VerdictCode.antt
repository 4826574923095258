-- The verdict scale has number 1; a verdict's code is its number, in one byte. Assumes nothing.
use Rattle.std.specs.Prelude.{[], ◌∷◌}
use Rattle.scale.specs.declared.verdict.Verdict.{Verdict}
use Rattle.scale.specs.Codes.{Coding}
use Rattle.scale.specs.Verdicts.{rank}

abbrev pub verdict_coding : Coding Verdict
verdict_coding = record { number = 1; width = 1; code = λ v. rank v ∷ [] }
