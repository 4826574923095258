use Rattle.std.proofs.Common.{rules, ap, replicate, drop, ◌++◌, ◌∙◌}
use Rattle.monitor.proofs.Fronts.{all_same}
use Rattle.monitor.proofs.rows.clear.Goals as goal
use Rattle.std.proofs.lemmas.List.{length-take-le}

pub returns : goal.returns
returns g c =
    let worst = g.S.Scale.algebra.worst in
    let values = c.args.values.now in
    let (last, ran) = c.fill_with.ensures.ran in
    ap (λ xs. xs ++ drop c.args.count values)
    (all_same _ _ c.fill_with.new.self last worst ran (λ p x q called. search rules)
    ∙ ap (λ n. replicate n worst) (c.fill_with.ensures.len ∙ length-take-le c.args.count values c.requires))
