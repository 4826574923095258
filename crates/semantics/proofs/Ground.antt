-- The equations of the position rules hold for every lawful scale. Assumes nothing.
use Rattle.scale.specs.Laws.{Algebra, Lawful}
use Rattle.semantics.specs.Equations.{Ground}
use Rattle.semantics.proofs.Bounds.{repeated, unrolled}
use Rattle.semantics.proofs.Segments.{onwards}

pub ground : {S : Type 0} {A : Algebra S} → Lawful A → Ground A
ground {A = A} L = record { repeated = repeated A; unrolled = unrolled A; onwards = onwards L }
