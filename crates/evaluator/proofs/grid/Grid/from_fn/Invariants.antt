use Rattle.std.proofs.Common.{vec_items}
use Rattle.evaluator.proofs.Filled.{Cells}
use Rattle.evaluator.proofs.grid.Grid.from_fn.Given as goal

abbrev pub invariant-loop-from : goal.invariant-loop-from
invariant-loop-from g l = Cells g.S.Scale.algebra (goal.F-post g l.value) l.size l.from 0 (vec_items l.cells)

abbrev pub invariant-loop-to : goal.invariant-loop-to
invariant-loop-to g l = Cells g.S.Scale.algebra (goal.F-post g l.value) l.size l.from l.to (vec_items l.cells)
