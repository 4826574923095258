use Rattle.monitor.proofs.Carried.{summary_lawful}
use Rattle.monitor.specs.Outside.{summary_state}
use Rattle.monitor.proofs.summing.Held+S+EachRow.report.Goals as goal

pub returns-clause-law : goal.returns-clause-law
returns-clause-law g c = summary_lawful g.met.S.Scale.lawful (summary_state c.args.self.now)
