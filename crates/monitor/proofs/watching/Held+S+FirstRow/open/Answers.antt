use Rattle.monitor.proofs.Carried.{run_opened, watch_lawful}
use Rattle.monitor.specs.Outside.{watch_state}
use Rattle.rule.specs.Stands.{rule_of}
use Rattle.monitor.proofs.watching.Held+S+FirstRow.open.Goals as goal

pub returns-clause-run : goal.returns-clause-run
returns-clause-run g c =
    run_opened g.S.Scale.algebra (watch_state c.opening.result) (rule_of c.args.rule.now.laid.rule) c.args.buffer.now c.opening.ensures.state

pub returns-clause-law : goal.returns-clause-law
returns-clause-law g c = watch_lawful g.met.S.Scale.lawful (watch_state c.opening.result)
