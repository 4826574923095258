use Rattle.std.proofs.Common.{ap, rules}
use mathlib.Core.Logic.{⊎_map}
use Rattle.cells.specs.Reading.{on_letter, cells_of}
use Rattle.cells.proofs.Parts.{letter_is, negated_is, pair_is, next_is, turn_is}
use Rattle.cells.proofs.Walking.{walked}
use Rattle.cells.proofs.ahead.Ahead.+rule_before.Goals as goal
use Rattle.rule.specs.Stands.{segment_of, rule_of}

pub returns-in-Letter : goal.returns-in-Letter
returns-in-Letter g t c =
    let e = letter_is (walked g.met.S.Scale.lawful) (on_letter g.S.Scale.algebra (g.L.Letter.heard c.args.self.now.letter.now)) (cells_of g.S.Scale.algebra c.args.self.now.after.now)
    c.args.odd c.in-Letter.test c.args.base in
    search rules

pub returns-in-Negated : goal.returns-in-Negated
returns-in-Negated g t c =
    let e = negated_is (walked g.met.S.Scale.lawful) (on_letter g.S.Scale.algebra (g.L.Letter.heard c.args.self.now.letter.now)) (cells_of g.S.Scale.algebra c.args.self.now.after.now)
    c.args.odd (rule_of c.in-Negated.inner.value) c.args.base in
    search rules

pub returns-in-Next : goal.returns-in-Next
returns-in-Next g t c =
    let e = next_is (walked g.met.S.Scale.lawful) (on_letter g.S.Scale.algebra (g.L.Letter.heard c.args.self.now.letter.now)) (cells_of g.S.Scale.algebra c.args.self.now.after.now)
    c.args.odd c.in-Next.kind (segment_of c.in-Next.segment.value) (rule_of c.in-Next.field-2.value) c.args.base in
    search rules

pub returns-in-Both : goal.returns-in-Both
returns-in-Both g t c =
    let e = pair_is (walked g.met.S.Scale.lawful) (on_letter g.S.Scale.algebra (g.L.Letter.heard c.args.self.now.letter.now)) (cells_of g.S.Scale.algebra c.args.self.now.after.now)
    c.args.odd (rule_of c.in-Both.first.value) (rule_of c.in-Both.second.value) (rule_of c.args.rule.now) c.args.base (⊎_map (ap rule_of) (ap rule_of) c.in-Both.is) in
    search rules

pub returns-in-Until : goal.returns-in-Until
returns-in-Until g t c =
    let e = turn_is (walked g.met.S.Scale.lawful) (on_letter g.S.Scale.algebra (g.L.Letter.heard c.args.self.now.letter.now)) (cells_of g.S.Scale.algebra c.args.self.now.after.now)
    c.args.odd c.in-Until.kind (rule_of c.in-Until.hold.value) (segment_of c.in-Until.segment.value) (rule_of c.in-Until.goal.value)
    (rule_of c.args.rule.now) c.args.base (⊎_map (ap rule_of) (ap rule_of) c.in-Until.is) in
    search rules
