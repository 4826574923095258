-- The marks of the three values that are reported. Assumes nothing.
use Rattle.scale.specs.Laws.{Algebra}
use Rattle.evaluator.specs.declared.mark.Value.{Value}
use Rattle.evaluator.specs.declared.mark.Value.TheVariants.{Verdict, Floor, Ceiling}
use Rattle.semantics.specs.Marks.{Marks, verdict_marks, floor_marks, ceiling_marks}

abbrev pub marks_of : {S : Type 0} → Algebra S → Value → Marks S
marks_of A Verdict = verdict_marks A
marks_of A Floor = floor_marks A
marks_of A Ceiling = ceiling_marks A
