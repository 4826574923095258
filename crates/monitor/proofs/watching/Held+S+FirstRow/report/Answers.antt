use Rattle.monitor.proofs.Carried.{run_report, watch_lawful, bits_lawful}
use Rattle.monitor.specs.Outside.{watch_state}
use Rattle.rule.specs.Stands.{rule_of}
use Rattle.monitor.proofs.watching.Held+S+FirstRow.report.Goals as goal

pub returns-clause-run : goal.returns-clause-run
returns-clause-run g c =
    run_report g.S.Scale.algebra (watch_state c.args.self.now) c.told.result (rule_of c.args.rule.now.laid.rule) c.told.ensures

pub returns-clause-law : goal.returns-clause-law
returns-clause-law g c = watch_lawful g.met.S.Scale.lawful (watch_state c.args.self.now)

pub returns-clause-bits : goal.returns-clause-bits
returns-clause-bits g c = bits_lawful
