use Rattle.monitor.proofs.Carried.{built_opened, summary_lawful}
use Rattle.monitor.specs.Outside.{summary_state}
use Rattle.rule.specs.Stands.{rule_of}
use Rattle.monitor.proofs.summing.Held+S+EachRow.open.Goals as goal

pub returns-clause-built : goal.returns-clause-built
returns-clause-built g c =
    built_opened g.S.Scale.algebra (summary_state c.opening.result) (rule_of c.args.rule.now.laid.rule) c.args.buffer.now c.opening.ensures.state

pub returns-clause-law : goal.returns-clause-law
returns-clause-law g c = summary_lawful g.met.S.Scale.lawful (summary_state c.opening.result)
