use Rattle.std.proofs.Common.{◌+◌, ◌*◌, vec_items}
use Rattle.evaluator.proofs.Filled.{place_apart}
use Rattle.std.proofs.lemmas.List.{get_or-set_other}
use Rattle.evaluator.proofs.grid.Grid.set.Goals as goal

pub returns-clause-others : goal.returns-clause-others
returns-clause-others g c = λ i j l m ne.
    get_or-set_other (vec_items c.args.self.now.cells) _ (i * c.args.self.now.size + j) c.args.value g.S.Scale.algebra.worst (place_apart c.args.self.now.size i j c.args.from c.args.to m c.requires.to_in ne)
