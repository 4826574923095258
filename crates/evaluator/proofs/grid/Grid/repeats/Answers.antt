use Rattle.std.proofs.Common.{◌-◌, cond, eqb, arith, rules}
use Rattle.evaluator.specs.Tables.{cell}
use Rattle.evaluator.proofs.Steps.{stepped_none, stepped_more, stepped_row}
use Rattle.evaluator.proofs.grid.Grid.repeats.Goals as goal

pub loop-from-init : goal.loop-from-init
loop-from-init g c =
    let A = g.S.Scale.algebra in
    stepped_none A (cell A c.args.self.now) c.args.self.now.size c.args.self.now.size c.in_ok-steps.steps (omega arith)
    (c.in_ok-steps.ensures.values (λ i j. cond (eqb i j) A.best A.worst) (λ i j x l m p. search rules))

pub loop-to-preserved : goal.loop-to-preserved
loop-to-preserved g c =
    let A = g.S.Scale.algebra in
    stepped_more A (cell A c.args.self.now) c.args.self.now.size (c.loop-from.from - 1) c.loop-to.to c.loop-to.steps c.set.new.self c.through-value.result
    (omega arith) c.loop-to-test.true c.loop-to.invariant c.through-value.ensures c.set.ensures.size c.set.ensures.here c.set.ensures.others

pub loop-from-preserved : goal.loop-from-preserved
loop-from-preserved g c =
    let A = g.S.Scale.algebra in
    stepped_row A (cell A c.args.self.now) c.args.self.now.size (c.loop-from.from - 1) c.loop-to.to c.loop-to.steps c.loop-to-test.false c.loop-to.invariant
