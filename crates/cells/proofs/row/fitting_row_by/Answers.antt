use Rattle.std.proofs.Common.{sym, ◌∙◌, arith, pow_mono}
use Rattle.std.proofs.lemmas.Nat.{one_shl}
use Rattle.cells.proofs.row.fitting_row_by.Goals as goal
use Rattle.cells.proofs.row.fitting_row_by.Goals.{else-cells-lt64-via-then-cells-lt64+else-row-cells, else-cells-lt64-via-else-cells-lt64}

pub returns : goal.returns
returns g c e =
    elim c.else-cells-lt64.branch [
      | else-cells-lt64-via-then-cells-lt64+else-row-cells w ↦ w.if-row-cells.false (e ∙ sym (one_shl _ 64 w.if-cells-lt64.true))
      | else-cells-lt64-via-else-cells-lt64 w ↦ omega (arith, e, c.well_formed.0.0, pow_mono w.if-cells-lt64.false)
    ]
