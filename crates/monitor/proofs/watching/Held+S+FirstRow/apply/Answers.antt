use Rattle.monitor.proofs.Carried.{run_apply, watch_lawful, bits_lawful}
use Rattle.monitor.specs.Outside.{watch_state, summary_state}
use Rattle.rule.specs.Stands.{rule_of}
use Rattle.monitor.proofs.watching.Held+S+FirstRow.apply.Goals as goal

pub returns-clause-run : goal.returns-clause-run
returns-clause-run g c =
    run_apply g.S.Scale.algebra (watch_state c.args.self.now) (watch_state c.take_in.new.self) c.take_in.result (rule_of c.args.rule.now.laid.rule)
    (summary_state c.args.summary.now) c.args.spare.now c.take_in.ensures.answer c.take_in.ensures.state

pub returns-clause-law : goal.returns-clause-law
returns-clause-law g c = watch_lawful g.met.S.Scale.lawful (watch_state c.take_in.new.self)

pub returns-clause-bits : goal.returns-clause-bits
returns-clause-bits g c = bits_lawful
