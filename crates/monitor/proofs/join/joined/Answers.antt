use Rattle.std.proofs.Common.{rules, sym, ◌∙◌}
use Rattle.monitor.proofs.join.joined.Goals as goal
use Rattle.monitor.proofs.Leaving.{join_room}
use Rattle.monitor.specs.Outside.{summary_state}
use Rattle.rule.specs.Stands.{rule_of}
use Rattle.runs.proofs.Checks.{join_facts}

pub invariant_of-volume : goal.invariant_of-volume
invariant_of-volume g c =
    let laid = c.args.rule.now.laid in
    let fits = join_room g.S.Scale.algebra (rule_of laid.rule) laid.count (summary_state c.args.first.now) (summary_state c.args.second.now)
    (summary_state c.args.third.now) laid.counted (sym c.check_join.ensures ∙ c.in_ok-check_join.was) in
    record { long = fits.1 }

pub write_rows-requires : goal.write_rows-requires
write_rows-requires g c =
    let laid = c.args.rule.now.laid in
    let fits = join_room g.S.Scale.algebra (rule_of laid.rule) laid.count (summary_state c.args.first.now) (summary_state c.args.second.now)
    (summary_state c.args.third.now) laid.counted (sym c.check_join.ensures ∙ c.in_ok-check_join.was) in
    record { one = fits.0; room = fits.2 }

pub returns-clause-state : goal.returns-clause-state
returns-clause-state g c =
    let facts = join_facts g.S.Scale.algebra (rule_of c.args.rule.now.laid.rule) (summary_state c.args.first.now) (summary_state c.args.second.now)
    (summary_state c.args.third.now) (sym c.check_join.ensures ∙ c.in_ok-check_join.was) in
    search rules
