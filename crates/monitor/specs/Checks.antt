-- How a report is refused: its answer holds values, which its checks do not make. Assumes nothing.
use Rattle.std.specs.Prelude.{Ok, ◌==◌}
use Rattle.fault.specs.declared.WorkCause.TheVariants.{Differs, BufferShort, NoLetter}
use Rattle.rule.specs.Tree.{Rule}
use Rattle.runs.specs.Calls.{Answer, unless, differs}
use Rattle.runs.specs.States.{State, Form, short}

-- the answer of a report, but for the values that it tells where it is accepted
abbrev pub report_check : {S : Type 0} → Form → Rule → State S → Answer
report_check form r s =
    unless (short form s) BufferShort
    (unless (differs r s) Differs
    (unless (s.count == 0) NoLetter (Ok tt)))
