use Rattle.std.proofs.Common.{◌+◌, ap, arith, rules}
use mathlib.Core.Logic.{⊎_map}
use Rattle.cells.proofs.Ends.{letter_end, negated_end, pair_ends, next_ends, turn_ends}
use Rattle.cells.proofs.mark.+inner_mark.Goals as goal
use Rattle.rule.specs.Stands.{segment_of, rule_of}
use Rattle.semantics.specs.Marks.{mark_of}

pub returns-in-Letter : goal.returns-in-Letter
returns-in-Letter g t c =
    let e = letter_end (mark_of g.S.Scale.algebra) g.S.Scale.algebra.worst c.args.odd c.in-Letter.field-0 c.args.cell in
    search rules

pub returns-in-Negated : goal.returns-in-Negated
returns-in-Negated g t c =
    let e = negated_end (mark_of g.S.Scale.algebra) g.S.Scale.algebra.worst c.args.odd (rule_of c.in-Negated.inner.value) c.args.cell in
    search rules

pub returns-then-cell-cells : goal.returns-then-cell-cells
returns-then-cell-cells g t c =
    let T = next_ends (mark_of g.S.Scale.algebra) g.S.Scale.algebra.worst c.args.odd c.in-Next.kind (segment_of c.in-Next.segment.value) (rule_of c.in-Next.inner.value) (rule_of c.args.rule.now)
    c.args.cell (1 + c.segment_cells-cells.result) (ap rule_of c.in-Next.is) (grind arith) in
    let e = T.in_own (omega arith) in
    search rules

pub returns-else-cell-cells : goal.returns-else-cell-cells
returns-else-cell-cells g t c =
    let T = next_ends (mark_of g.S.Scale.algebra) g.S.Scale.algebra.worst c.args.odd c.in-Next.kind (segment_of c.in-Next.segment.value) (rule_of c.in-Next.inner.value) (rule_of c.args.rule.now)
    c.args.cell (1 + c.segment_cells-cells.result) (ap rule_of c.in-Next.is) (grind arith) in
    let e = T.in_rest (omega arith) in
    search rules

pub returns-then-cell-eq0 : goal.returns-then-cell-eq0
returns-then-cell-eq0 g t c =
    let T = turn_ends (mark_of g.S.Scale.algebra) g.S.Scale.algebra.worst c.args.odd c.in-Until.kind (rule_of c.in-Until.hold.value) (segment_of c.in-Until.segment.value) (rule_of c.in-Until.goal.value)
    (rule_of c.args.rule.now) c.args.cell (1 + c.rule_cells-tests.result) (1 + c.rule_cells-tests.result + c.segment_cells.result)
    (⊎_map (ap rule_of) (ap rule_of) c.in-Until.is) (grind arith) (grind arith) in
    let e = T.at_operator (omega arith) in
    search rules

pub returns-then-cell-tests : goal.returns-then-cell-tests
returns-then-cell-tests g t c =
    let T = turn_ends (mark_of g.S.Scale.algebra) g.S.Scale.algebra.worst c.args.odd c.in-Until.kind (rule_of c.in-Until.hold.value) (segment_of c.in-Until.segment.value) (rule_of c.in-Until.goal.value)
    (rule_of c.args.rule.now) c.args.cell (1 + c.rule_cells-tests.result) (1 + c.rule_cells-tests.result + c.segment_cells.result)
    (⊎_map (ap rule_of) (ap rule_of) c.in-Until.is) (grind arith) (grind arith) in
    let e = T.in_hold (omega arith) (omega arith) in
    search rules

pub returns-then-cell-rest : goal.returns-then-cell-rest
returns-then-cell-rest g t c =
    let T = turn_ends (mark_of g.S.Scale.algebra) g.S.Scale.algebra.worst c.args.odd c.in-Until.kind (rule_of c.in-Until.hold.value) (segment_of c.in-Until.segment.value) (rule_of c.in-Until.goal.value)
    (rule_of c.args.rule.now) c.args.cell (1 + c.rule_cells-tests.result) (1 + c.rule_cells-tests.result + c.segment_cells.result)
    (⊎_map (ap rule_of) (ap rule_of) c.in-Until.is) (grind arith) (grind arith) in
    let e = T.in_tests (omega arith) (omega arith) in
    search rules

pub returns-else-cell-rest : goal.returns-else-cell-rest
returns-else-cell-rest g t c =
    let T = turn_ends (mark_of g.S.Scale.algebra) g.S.Scale.algebra.worst c.args.odd c.in-Until.kind (rule_of c.in-Until.hold.value) (segment_of c.in-Until.segment.value) (rule_of c.in-Until.goal.value)
    (rule_of c.args.rule.now) c.args.cell (1 + c.rule_cells-tests.result) (1 + c.rule_cells-tests.result + c.segment_cells.result)
    (⊎_map (ap rule_of) (ap rule_of) c.in-Until.is) (grind arith) (grind arith) in
    let e = T.in_goal (omega arith) in
    search rules

pub returns-then-cell-cells-2 : goal.returns-then-cell-cells-2
returns-then-cell-cells-2 g t c =
    let T = pair_ends (mark_of g.S.Scale.algebra) g.S.Scale.algebra.worst c.args.odd (rule_of c.in-Both.first.value) (rule_of c.in-Both.second.value) (rule_of c.args.rule.now)
    c.args.cell c.rule_cells-cells.result (⊎_map (ap rule_of) (ap rule_of) c.in-Both.is) (grind arith) in
    let e = T.in_first (omega arith) in
    search rules

pub returns-else-cell-cells-2 : goal.returns-else-cell-cells-2
returns-else-cell-cells-2 g t c =
    let T = pair_ends (mark_of g.S.Scale.algebra) g.S.Scale.algebra.worst c.args.odd (rule_of c.in-Both.first.value) (rule_of c.in-Both.second.value) (rule_of c.args.rule.now)
    c.args.cell c.rule_cells-cells.result (⊎_map (ap rule_of) (ap rule_of) c.in-Both.is) (grind arith) in
    let e = T.in_second (omega arith) in
    search rules
