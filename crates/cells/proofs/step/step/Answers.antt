use Rattle.cells.proofs.Stepping.{step_laws, stepping}
use Rattle.cells.proofs.Tables.{table_laws}
use Rattle.cells.proofs.Walking.{walked}
use Rattle.cells.proofs.step.step.Goals as goal

pub returns : goal.returns
returns g c =
    let laws = g.met.S.Scale.lawful in
    record { answer = c.stepped.ensures; laws = step_laws laws; stepping = stepping laws; walked = walked laws; tables = table_laws laws }
