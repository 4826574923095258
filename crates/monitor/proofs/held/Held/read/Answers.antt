use Rattle.std.proofs.Common.{sym, ◌∙◌}
use Rattle.monitor.proofs.held.Held.read.Goals as goal
use Rattle.monitor.proofs.Leaving.{letter_room, letter_left, letter_spared}
use Rattle.rule.specs.Stands.{rule_of}

pub add_to_rows-requires-clause-long : goal.add_to_rows-requires-clause-long
add_to_rows-requires-clause-long g c =
    let self = c.args.self.now in
    let laid = c.args.rule.now.laid in
    letter_room g.S.Scale.algebra g.K.Kept.form self.head self.count.number self.table.now (rule_of laid.rule) (g.L.Letter.heard c.args.letter.now) c.args.spare.now
    laid.count c.rows-rows.result laid.counted c.rows-rows.ensures.kept (sym c.check_letter.ensures ∙ c.in_ok-check_letter.was)

pub returns-clause-state : goal.returns-clause-state
returns-clause-state g c =
    let self = c.args.self.now in
    let laid = c.args.rule.now.laid in
    let r = rule_of laid.rule in
    let l = g.L.Letter.heard c.args.letter.now in
    rw c.plus-self.ensures (letter_left g.S.Scale.algebra g.K.Kept.form self.head self.count.number self.table.now r l c.args.spare.now laid.count c.rows-rows.result
    laid.counted c.rows-rows.ensures.kept (sym c.check_letter.ensures ∙ c.in_ok-check_letter.was) c.add_to_rows.new.table c.add_to_rows.ensures.table)

pub returns-clause-spare : goal.returns-clause-spare
returns-clause-spare g c =
    let self = c.args.self.now in
    let laid = c.args.rule.now.laid in
    letter_spared g.S.Scale.algebra g.K.Kept.form self.head self.count.number self.table.now (rule_of laid.rule) (g.L.Letter.heard c.args.letter.now) c.args.spare.now
    laid.count c.rows-rows.result laid.counted c.rows-rows.ensures.kept (sym c.check_letter.ensures ∙ c.in_ok-check_letter.was)
    c.add_to_rows.new.spare c.add_to_rows.ensures.spare
