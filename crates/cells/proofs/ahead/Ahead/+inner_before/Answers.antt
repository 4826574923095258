use Rattle.std.proofs.Common.{◌+◌, ap, arith, rules}
use mathlib.Core.Logic.{⊎_map}
use Rattle.cells.specs.Reading.{on_letter, cells_of}
use Rattle.cells.proofs.Parts.{letter_cell, negated_cell, pair_cells, next_cells, turn_cells}
use Rattle.cells.proofs.Walking.{walked}
use Rattle.cells.proofs.ahead.Ahead.+inner_before.Goals as goal
use Rattle.rule.specs.Stands.{segment_of, rule_of}

pub returns-in-Letter : goal.returns-in-Letter
returns-in-Letter g t c =
    let e = letter_cell (walked g.met.S.Scale.lawful) (on_letter g.S.Scale.algebra (g.L.Letter.heard c.args.self.now.letter.now)) (cells_of g.S.Scale.algebra c.args.self.now.after.now)
    c.args.odd c.in-Letter.field-0 c.args.base c.args.cell in
    search rules

pub returns-in-Negated : goal.returns-in-Negated
returns-in-Negated g t c =
    let e = negated_cell (walked g.met.S.Scale.lawful) (on_letter g.S.Scale.algebra (g.L.Letter.heard c.args.self.now.letter.now)) (cells_of g.S.Scale.algebra c.args.self.now.after.now)
    c.args.odd (rule_of c.in-Negated.inner.value) c.args.base c.args.cell in
    search rules

pub returns-then-cell-base : goal.returns-then-cell-base
returns-then-cell-base g t c =
    let T = next_cells (walked g.met.S.Scale.lawful) (on_letter g.S.Scale.algebra (g.L.Letter.heard c.args.self.now.letter.now)) (cells_of g.S.Scale.algebra c.args.self.now.after.now)
    c.args.odd c.in-Next.kind (segment_of c.in-Next.segment.value) (rule_of c.in-Next.inner.value) (rule_of c.args.rule.now)
    c.args.base c.args.cell (c.args.base + 1 + c.segment_cells.result) (ap rule_of c.in-Next.is) (grind arith) in
    let e = T.at_operator (omega arith) in
    search rules

pub returns-then-cell-rest : goal.returns-then-cell-rest
returns-then-cell-rest g t c =
    let T = next_cells (walked g.met.S.Scale.lawful) (on_letter g.S.Scale.algebra (g.L.Letter.heard c.args.self.now.letter.now)) (cells_of g.S.Scale.algebra c.args.self.now.after.now)
    c.args.odd c.in-Next.kind (segment_of c.in-Next.segment.value) (rule_of c.in-Next.inner.value) (rule_of c.args.rule.now)
    c.args.base c.args.cell (c.args.base + 1 + c.segment_cells.result) (ap rule_of c.in-Next.is) (grind arith) in
    let e = T.in_tests (omega arith) (omega arith) in
    search rules

pub returns-else-cell-rest : goal.returns-else-cell-rest
returns-else-cell-rest g t c =
    let T = next_cells (walked g.met.S.Scale.lawful) (on_letter g.S.Scale.algebra (g.L.Letter.heard c.args.self.now.letter.now)) (cells_of g.S.Scale.algebra c.args.self.now.after.now)
    c.args.odd c.in-Next.kind (segment_of c.in-Next.segment.value) (rule_of c.in-Next.inner.value) (rule_of c.args.rule.now)
    c.args.base c.args.cell (c.args.base + 1 + c.segment_cells.result) (ap rule_of c.in-Next.is) (grind arith) in
    let e = T.in_rest (omega arith) in
    search rules

pub returns-then-cell-base-2 : goal.returns-then-cell-base-2
returns-then-cell-base-2 g t c =
    let T = turn_cells (walked g.met.S.Scale.lawful) (on_letter g.S.Scale.algebra (g.L.Letter.heard c.args.self.now.letter.now)) (cells_of g.S.Scale.algebra c.args.self.now.after.now)
    c.args.odd c.in-Until.kind (rule_of c.in-Until.hold.value) (segment_of c.in-Until.segment.value) (rule_of c.in-Until.goal.value)
    (rule_of c.args.rule.now) c.args.base c.args.cell (c.args.base + 1 + c.rule_cells.result)
    (c.args.base + 1 + c.rule_cells.result + c.segment_cells-in-Until.result) (⊎_map (ap rule_of) (ap rule_of) c.in-Until.is) (grind arith) (grind arith) in
    let e = T.at_operator (omega arith) in
    search rules

pub returns-then-cell-tests : goal.returns-then-cell-tests
returns-then-cell-tests g t c =
    let T = turn_cells (walked g.met.S.Scale.lawful) (on_letter g.S.Scale.algebra (g.L.Letter.heard c.args.self.now.letter.now)) (cells_of g.S.Scale.algebra c.args.self.now.after.now)
    c.args.odd c.in-Until.kind (rule_of c.in-Until.hold.value) (segment_of c.in-Until.segment.value) (rule_of c.in-Until.goal.value)
    (rule_of c.args.rule.now) c.args.base c.args.cell (c.args.base + 1 + c.rule_cells.result)
    (c.args.base + 1 + c.rule_cells.result + c.segment_cells-in-Until.result) (⊎_map (ap rule_of) (ap rule_of) c.in-Until.is) (grind arith) (grind arith) in
    let e = T.in_hold (omega arith) (omega arith) in
    search rules

pub returns-then-cell-rest-2 : goal.returns-then-cell-rest-2
returns-then-cell-rest-2 g t c =
    let T = turn_cells (walked g.met.S.Scale.lawful) (on_letter g.S.Scale.algebra (g.L.Letter.heard c.args.self.now.letter.now)) (cells_of g.S.Scale.algebra c.args.self.now.after.now)
    c.args.odd c.in-Until.kind (rule_of c.in-Until.hold.value) (segment_of c.in-Until.segment.value) (rule_of c.in-Until.goal.value)
    (rule_of c.args.rule.now) c.args.base c.args.cell (c.args.base + 1 + c.rule_cells.result)
    (c.args.base + 1 + c.rule_cells.result + c.segment_cells-in-Until.result) (⊎_map (ap rule_of) (ap rule_of) c.in-Until.is) (grind arith) (grind arith) in
    let e = T.in_tests (omega arith) (omega arith) in
    search rules

pub returns-else-cell-rest-2 : goal.returns-else-cell-rest-2
returns-else-cell-rest-2 g t c =
    let T = turn_cells (walked g.met.S.Scale.lawful) (on_letter g.S.Scale.algebra (g.L.Letter.heard c.args.self.now.letter.now)) (cells_of g.S.Scale.algebra c.args.self.now.after.now)
    c.args.odd c.in-Until.kind (rule_of c.in-Until.hold.value) (segment_of c.in-Until.segment.value) (rule_of c.in-Until.goal.value)
    (rule_of c.args.rule.now) c.args.base c.args.cell (c.args.base + 1 + c.rule_cells.result)
    (c.args.base + 1 + c.rule_cells.result + c.segment_cells-in-Until.result) (⊎_map (ap rule_of) (ap rule_of) c.in-Until.is) (grind arith) (grind arith) in
    let e = T.in_goal (omega arith) in
    search rules

pub returns-then-cell-middle : goal.returns-then-cell-middle
returns-then-cell-middle g t c =
    let T = pair_cells (walked g.met.S.Scale.lawful) (on_letter g.S.Scale.algebra (g.L.Letter.heard c.args.self.now.letter.now)) (cells_of g.S.Scale.algebra c.args.self.now.after.now)
    c.args.odd (rule_of c.in-Both.first.value) (rule_of c.in-Both.second.value) (rule_of c.args.rule.now)
    c.args.base c.args.cell (c.args.base + c.rule_cells-in-Both.result) (⊎_map (ap rule_of) (ap rule_of) c.in-Both.is) (grind arith) in
    let e = T.in_first (omega arith) (omega arith) in
    search rules

pub returns-else-cell-middle : goal.returns-else-cell-middle
returns-else-cell-middle g t c =
    let T = pair_cells (walked g.met.S.Scale.lawful) (on_letter g.S.Scale.algebra (g.L.Letter.heard c.args.self.now.letter.now)) (cells_of g.S.Scale.algebra c.args.self.now.after.now)
    c.args.odd (rule_of c.in-Both.first.value) (rule_of c.in-Both.second.value) (rule_of c.args.rule.now)
    c.args.base c.args.cell (c.args.base + c.rule_cells-in-Both.result) (⊎_map (ap rule_of) (ap rule_of) c.in-Both.is) (grind arith) in
    let e = T.in_second (omega arith) in
    search rules
