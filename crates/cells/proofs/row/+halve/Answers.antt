use Rattle.std.proofs.Common.{◌≡◌, ◌-◌, ◌^◌, length, ◌∙◌, ap, rules, arith}
use Rattle.cells.proofs.Listed.{twice_corners, one_value, from_halves}
use Rattle.cells.proofs.row.+halve.Goals as goal

pub returns-then-cells-eq0 : goal.returns-then-cells-eq0
returns-then-cells-eq0 g t c v given = one_value g.met.S.Scale.lawful _ _ v _ c.if-cells-eq0.true c.requires.whole c.index-row-0.is

pub halve-requires : goal.halve-requires
halve-requires g t c κs within =
    let half : length c.split_at.result.0.now ≡ 2 ^ (c.args.cells - 1) = omega (arith, twice_corners c.args.cells (c.args.cells - 1)) in
    search rules

pub halve-requires-2 : goal.halve-requires-2
halve-requires-2 g t c κs within =
    let half : length c.split_at.result.1.now ≡ 2 ^ (c.args.cells - 1) = omega (arith, twice_corners c.args.cells (c.args.cells - 1)) in
    search rules

pub returns : goal.returns
returns g t c v given =
    from_halves g.met.S.Scale.lawful c.args.cells (c.args.cells - 1) _ _ _ v _ _ _ _ (omega (arith, c.if-cells-eq0.false)) c.split_at.ensures.by_index.0
    (omega (arith, twice_corners c.args.cells (c.args.cells - 1))) (c.halve.ensures v (λ cell l. given cell (omega arith)))
    (c.halve-2.ensures v (λ cell l. given cell (omega arith)))
    (given (c.args.cells - 1) (omega arith) _ c.value-last.ensures) (c.join.ensures ∙ ap (g.S.Scale.algebra.join c.halve.result) c.meet.ensures)
