use Rattle.monitor.proofs.Carried.{built_join, summary_lawful}
use Rattle.monitor.specs.Outside.{summary_state}
use Rattle.rule.specs.Stands.{rule_of}
use Rattle.monitor.proofs.join.join.Goals as goal

pub returns-clause-built : goal.returns-clause-built
returns-clause-built g c =
    built_join g.S.Scale.algebra (summary_state c.args.third.now) (summary_state c.joined.new.third) c.joined.result (rule_of c.args.rule.now.laid.rule)
    (summary_state c.args.first.now) (summary_state c.args.second.now) c.joined.ensures.answer c.joined.ensures.state

pub returns-clause-law : goal.returns-clause-law
returns-clause-law g c = summary_lawful g.met.S.Scale.lawful (summary_state c.joined.new.third)
