use Rattle.std.proofs.Common.{refl}
use Rattle.evaluator.proofs.Filled.{cells_more, grid_filled}
use Rattle.evaluator.proofs.grid.Grid.from_fn.Goals as goal

pub loop-to-preserved : goal.loop-to-preserved
loop-to-preserved g c =
    cells_more g.S.Scale.algebra (goal.F-post g c.args.value) _ _ c.loop-to.to _ _ _ c.loop-to-test.true c.loop-to.invariant c.in_ok-push.ensures.items c.value.ensures

pub returns-clause-values : goal.returns-clause-values
returns-clause-values g c = grid_filled g.S.Scale.algebra (goal.F-post g c.args.value) _ c.loop-from.from _ refl c.loop-from.auto.from-end c.loop-from-test.false c.loop-from.invariant
