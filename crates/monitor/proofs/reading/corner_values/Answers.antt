use Rattle.std.proofs.Common.{rules, take, ap, ◌∙◌}
use Rattle.cells.specs.Rows.{at_corner}
use Rattle.monitor.proofs.Columns.{all_made}
use Rattle.monitor.proofs.reading.corner_values.Goals as goal
use Rattle.std.proofs.lemmas.List.FromFn.{take-map-range_with_len}

pub returns : goal.returns
returns g c cells few =
    let A = g.S.Scale.algebra in
    let values = at_corner A c.args.corner in
    ap (λ xs. take cells xs) (all_made _ _ c.from_fn.result values A.worst (λ k y q called. search rules) 8 c.from_fn.ensures.items)
    ∙ take-map-range_with_len values 0 8 cells few
