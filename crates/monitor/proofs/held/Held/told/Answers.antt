use Rattle.std.proofs.Common.{sym, ◌∙◌}
use Rattle.monitor.proofs.held.Held.told.Goals as goal
use Rattle.monitor.proofs.Leaving.{report_room, report_told}
use Rattle.monitor.specs.Outside.{state_of}
use Rattle.rule.specs.Stands.{rule_of}

pub tell-requires : goal.tell-requires
tell-requires g c =
    let laid = c.args.rule.now.laid in
    report_room g.S.Scale.algebra g.K.Kept.form (state_of c.args.self.now) (rule_of laid.rule) (sym c.check_report.ensures ∙ c.in_ok-check_report.was)
    laid.count laid.counted

pub returns : goal.returns
returns g c =
    report_told g.S.Scale.algebra g.K.Kept.form (state_of c.args.self.now) (rule_of c.args.rule.now.laid.rule) (sym c.check_report.ensures ∙ c.in_ok-check_report.was)
    c.tell.result c.tell.ensures
