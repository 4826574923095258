-- Reports on a log and on a longer one. Assumes nothing.
use Rattle.std.specs.Prelude.{◌<◌, List, ◌++◌, length}
use Rattle.letter.specs.Heard.{Heard}
use Rattle.rule.specs.Tree.{Rule}
use Rattle.scale.specs.Laws.{Algebra, Below}
use Rattle.semantics.specs.Reports.{verdict, floor, ceiling}

-- whatever letters come: the earlier floor lies below the later verdict, floor and ceiling, and these lie below the
-- earlier ceiling
pub record Bounded {S : Type 0} (A : Algebra S) (r : Rule) (log more : List (Heard S)) : Type 0 where
  pub floor_floor : Below A (floor A r log) (floor A r (log ++ more))
  pub floor_verdict : Below A (floor A r log) (verdict A r (log ++ more))
  pub floor_ceiling : Below A (floor A r log) (ceiling A r (log ++ more))
  pub ceiling_floor : Below A (floor A r (log ++ more)) (ceiling A r log)
  pub ceiling_verdict : Below A (verdict A r (log ++ more)) (ceiling A r log)
  pub ceiling_ceiling : Below A (ceiling A r (log ++ more)) (ceiling A r log)

abbrev pub Later : {S : Type 0} → Algebra S → Type 0
Later {S} A = (r : Rule) (log more : List (Heard S)) → 0 < length log → Bounded A r log more

-- of one report, the floor lies below the verdict and the verdict below the ceiling
abbrev pub Ordered : {S : Type 0} → Algebra S → Type 0
Ordered {S} A = (r : Rule) (log : List (Heard S)) → Below A (floor A r log) (verdict A r log) × Below A (verdict A r log) (ceiling A r log)
