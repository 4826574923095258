use Rattle.std.proofs.Common.{sym, ◌∙◌}
use Rattle.monitor.proofs.Leaving.{apply_room, apply_summary_room, apply_left, apply_spared}
use Rattle.monitor.proofs.watching.Held+S+FirstRow.take_in.Goals as goal
use Rattle.rule.specs.Stands.{rule_of}

pub add_to_rows-requires-clause-long : goal.add_to_rows-requires-clause-long
add_to_rows-requires-clause-long g c =
    let self = c.args.self.now in
    let sum = c.args.summary.now in
    let laid = c.args.rule.now.laid in
    apply_room g.S.Scale.algebra self.head self.count.number self.table.now sum.head sum.count.number sum.table.now (rule_of laid.rule) c.args.spare.now laid.count
    laid.counted (sym c.check_apply.ensures ∙ c.in_ok-check_apply.was)

pub invariant_of-volume : goal.invariant_of-volume
invariant_of-volume g c =
    let self = c.args.self.now in
    let sum = c.args.summary.now in
    let laid = c.args.rule.now.laid in
    record {
      long = apply_summary_room g.S.Scale.algebra self.head self.count.number self.table.now sum.head sum.count.number sum.table.now (rule_of laid.rule) c.args.spare.now laid.count
          laid.counted (sym c.check_apply.ensures ∙ c.in_ok-check_apply.was);
    }

pub returns-clause-state : goal.returns-clause-state
returns-clause-state g c =
    let self = c.args.self.now in
    let sum = c.args.summary.now in
    let laid = c.args.rule.now.laid in
    rw c.plus-self.ensures (apply_left g.S.Scale.algebra self.head self.count.number self.table.now sum.head sum.count.number sum.table.now (rule_of laid.rule)
    c.args.spare.now laid.count laid.counted (sym c.check_apply.ensures ∙ c.in_ok-check_apply.was) c.add_to_rows.new.table c.add_to_rows.ensures.table)

pub returns-clause-spare : goal.returns-clause-spare
returns-clause-spare g c =
    let self = c.args.self.now in
    let sum = c.args.summary.now in
    let laid = c.args.rule.now.laid in
    apply_spared g.S.Scale.algebra self.head self.count.number self.table.now sum.head sum.count.number sum.table.now (rule_of laid.rule) c.args.spare.now laid.count
    laid.counted (sym c.check_apply.ensures ∙ c.in_ok-check_apply.was) c.add_to_rows.new.spare c.add_to_rows.ensures.spare
