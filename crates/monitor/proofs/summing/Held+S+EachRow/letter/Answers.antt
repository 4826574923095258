use Rattle.monitor.proofs.Carried.{built_letter, summary_lawful}
use Rattle.monitor.specs.Outside.{summary_state}
use Rattle.rule.specs.Stands.{rule_of}
use Rattle.monitor.proofs.summing.Held+S+EachRow.letter.Goals as goal

pub returns-clause-built : goal.returns-clause-built
returns-clause-built g c =
    built_letter g.S.Scale.algebra (summary_state c.args.self.now) (summary_state c.read.new.self) c.read.result (rule_of c.args.rule.now.laid.rule)
    (g.L.Letter.heard c.args.letter.now) c.args.spare.now c.read.ensures.answer c.read.ensures.state

pub returns-clause-law : goal.returns-clause-law
returns-clause-law g c = summary_lawful g.met.S.Scale.lawful (summary_state c.read.new.self)
