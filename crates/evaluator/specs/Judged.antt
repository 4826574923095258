-- What the answer of the evaluator means. Assumes nothing.
use Rattle.std.specs.Prelude.{◌≡◌, ◌<◌, ◌≤◌, List, length, Some, None, Ok, Err, Option, Result}
use Rattle.letter.specs.Heard.{Heard}
use Rattle.rule.specs.Tree.{Rule}
use Rattle.scale.specs.Laws.{Algebra}
use Rattle.evaluator.specs.declared.report.Unjudged.{Unjudged}
use Rattle.evaluator.specs.declared.report.Unjudged.TheVariants.{TooLong, NoMemory}
use Rattle.semantics.specs.Reports.{report}

-- an empty log has no values; a log of 1 to 64 letters has its report; a longer one is not judged
abbrev pub Judged : {S : Type 0} → Algebra S → Rule → List (Heard S) → Result (Option (S × S × S)) Unjudged → Type 0
Judged A rule log (Ok None) = length log ≡ 0
Judged A rule log (Ok (Some t)) = (0 < length log) × (length log ≤ 64) × (t ≡ report A rule log)
Judged A rule log (Err TooLong) = 64 < length log
Judged A rule log (Err NoMemory) = Unit {0}
