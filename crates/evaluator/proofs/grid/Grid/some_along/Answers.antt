use Rattle.std.proofs.Common.{arith, rules}
use Rattle.std.proofs.lemmas.Grind.{common_steps}
use Rattle.evaluator.specs.Tables.{entry, cell}
use Rattle.evaluator.proofs.Loops.{joined_over}
use Rattle.evaluator.proofs.grid.Grid.some_along.Goals as goal

pub returns : goal.returns
returns g c =
    let A = g.S.Scale.algebra in
    joined_over A c.args.low _ c.args.high _ _ c.worst.ensures
    (c.fold_over.ensures A.join (λ k. A.meet (cell A c.args.self.now c.args.from k) (entry A c.args.row.now k)) (λ x y z p. search rules) (λ k x low high p. grind (arith, common_steps)))
