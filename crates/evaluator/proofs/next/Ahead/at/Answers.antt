use Rattle.std.proofs.Common.{length, arith}
use Rattle.evaluator.specs.Segments.{matched, opened}
use Rattle.evaluator.specs.Tables.{entry}
use Rattle.evaluator.proofs.Parts.{some_kind, every_kind}
use Rattle.evaluator.proofs.next.Ahead.at.Goals as goal
use Rattle.std.proofs.lemmas.Grind.{common_steps}

pub returns-in-SomeStrong : goal.returns-in-SomeStrong
returns-in-SomeStrong g c =
    let A = g.S.Scale.algebra in
    let next = c.args.self.now.next.now in
    let row = c.args.self.now.after.now in
    some_kind A (length row) (matched A next.table) (opened A next.table) (entry A row) next.mark c.args.from next.kind _ c.in-SomeStrong.is (grind (arith, common_steps))

pub returns-in-EveryStrong : goal.returns-in-EveryStrong
returns-in-EveryStrong g c =
    let A = g.S.Scale.algebra in
    let next = c.args.self.now.next.now in
    let row = c.args.self.now.after.now in
    every_kind A (length row) (matched A next.table) (opened A next.table) (entry A row) next.mark c.args.from next.kind _ c.in-EveryStrong.is (grind (arith, common_steps))
