use Rattle.cells.proofs.row.+halve.Given as goal

abbrev pub decreases-halve : goal.decreases-halve
decreases-halve g l = l.cells
