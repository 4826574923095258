use Rattle.cells.proofs.Rows.{row_laws}
use Rattle.cells.proofs.row.row_by.Goals as goal

pub returns-clause-laws : goal.returns-clause-laws
returns-clause-laws g c = row_laws g.met.S.Scale.lawful
