use Rattle.std.proofs.Common.{refl, arith}
use Rattle.rule.specs.Stands.{rule_of}
use Rattle.cells.proofs.Laying.{small, all_cells}
use Rattle.cells.proofs.lay.laid_of.Goals as goal

pub rule_cells-count-requires : goal.rule_cells-count-requires
rule_cells-count-requires c = omega (arith, small _ _ c.in_ok-rule.ensures.0)

pub overflow_add-count : goal.overflow_add-count
overflow_add-count c = omega (arith, small _ _ c.in_ok-rule.ensures.0, c.rule_cells-count.ensures.few)

pub returns-then-count-gt-MOST_CELLS : goal.returns-then-count-gt-MOST_CELLS
returns-then-count-gt-MOST_CELLS c = (
  refl,
  (
    rule_of c.in_ok-rule.rule,
    c.in_ok-rule.ensures,
    omega (arith, c.if-count-gt-MOST_CELLS.true, all_cells _ _ c.rule_cells-count.ensures.counted),
  ),
)

pub invariant_of-result : goal.invariant_of-result
invariant_of-result c = record {
  small = small _ _ c.in_ok-rule.ensures.0;
  counted = all_cells _ _ c.rule_cells-count.ensures.counted;
  few = omega (arith, c.if-count-gt-MOST_CELLS.false);
}
