-- The marks: what a next is worth past the log's end. Assumes nothing.
use Rattle.std.specs.Prelude.{Bool, cond}
use Rattle.rule.specs.declared.leaf.Kind.{Kind}
use Rattle.rule.specs.declared.leaf.Kind.TheVariants.{SomeStrong, SomeWeak, EveryStrong, EveryWeak}
use Rattle.scale.specs.Laws.{Algebra}

-- a mark for each kind; the flag says that the operator stands under an odd number of `!`
abbrev pub Marks : Type 0 → Type 0
Marks S = Bool → Kind → S

-- the verdict's marks: pending after E and A, presumed after e and a
abbrev pub mark_of : {S : Type 0} → Algebra S → Kind → S
mark_of A SomeStrong = A.pending
mark_of A SomeWeak = A.presumed
mark_of A EveryStrong = A.pending
mark_of A EveryWeak = A.presumed

abbrev pub verdict_marks : {S : Type 0} → Algebra S → Marks S
verdict_marks A odd kind = mark_of A kind

-- the floor's marks: worst, but best under an odd number of `!`
abbrev pub floor_marks : {S : Type 0} → Algebra S → Marks S
floor_marks A odd kind = cond odd A.best A.worst

-- the ceiling's marks: best, but worst under an odd number of `!`
abbrev pub ceiling_marks : {S : Type 0} → Algebra S → Marks S
ceiling_marks A odd kind = cond odd A.worst A.best
