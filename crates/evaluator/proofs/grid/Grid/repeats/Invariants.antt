use Rattle.evaluator.specs.Tables.{cell}
use Rattle.evaluator.proofs.Steps.{Stepped, SteppedTo}
use Rattle.evaluator.proofs.grid.Grid.repeats.Given as goal

abbrev pub invariant-loop-from : goal.invariant-loop-from
invariant-loop-from g l = let A = g.S.Scale.algebra in Stepped A (cell A l.self) l.self.size l.from l.steps

abbrev pub invariant-loop-to : goal.invariant-loop-to
invariant-loop-to g l = let A = g.S.Scale.algebra in SteppedTo A (cell A l.self) l.self.size l.from l.to l.steps
