use Rattle.std.proofs.Common.{rules}
use Rattle.evaluator.specs.Tables.{cell}
use Rattle.evaluator.proofs.Loops.{joined_over}
use Rattle.evaluator.proofs.grid.Grid.through.Goals as goal

pub returns : goal.returns
returns g c =
    let A = g.S.Scale.algebra in
    joined_over A c.args.low _ c.args.high _ _ c.worst.ensures
    (c.fold_over.ensures A.join (λ k. A.meet (cell A c.args.self.now c.args.from k) (cell A c.args.other.now k c.args.to)) (λ x y z p. search rules) (λ k x low high p. search rules))
