use Rattle.cells.proofs.Stepping.{step_laws}
use Rattle.scale.specs.MarginsLemmas.{margins_lawful}
use Rattle.scale.proofs.VerdictLaws.{verdicts_lawful}
use Rattle.cells.proofs.lay.lay.Goals as goal

pub returns : goal.returns
returns c = record { answer = c.laid_of.ensures; verdicts = step_laws verdicts_lawful; margins = step_laws margins_lawful }
