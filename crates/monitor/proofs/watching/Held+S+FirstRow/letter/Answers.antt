use Rattle.monitor.proofs.Carried.{run_letter, watch_lawful, bits_lawful}
use Rattle.monitor.specs.Outside.{watch_state}
use Rattle.rule.specs.Stands.{rule_of}
use Rattle.monitor.proofs.watching.Held+S+FirstRow.letter.Goals as goal

pub returns-clause-run : goal.returns-clause-run
returns-clause-run g c =
    run_letter g.S.Scale.algebra (watch_state c.args.self.now) (watch_state c.read.new.self) c.read.result (rule_of c.args.rule.now.laid.rule)
    (g.L.Letter.heard c.args.letter.now) c.args.spare.now c.read.ensures.answer c.read.ensures.state

pub returns-clause-law : goal.returns-clause-law
returns-clause-law g c = watch_lawful g.met.S.Scale.lawful (watch_state c.read.new.self)

pub returns-clause-bits : goal.returns-clause-bits
returns-clause-bits g c = bits_lawful
