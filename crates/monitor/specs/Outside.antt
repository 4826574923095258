-- Watches and summaries of the code as states. Assumes nothing.
use Rattle.std.specs.Prelude.{ℕ, List}
use Rattle.cells.specs.Texts.{text_of}
use Rattle.monitor.specs.declared.head.Head.{Head}
use Rattle.monitor.specs.declared.held.Held.{Held}
use Rattle.monitor.specs.declared.kept.EachRow.{EachRow}
use Rattle.monitor.specs.declared.kept.FirstRow.{FirstRow}
use Rattle.monitor.specs.Heads.{rule_named}
use Rattle.rule.specs.Tree.{Rule}
use Rattle.runs.specs.States.{State}

-- the rule that a watch or summary was opened for
abbrev pub own : Head → Rule
own h = rule_named (text_of h.text)

-- a state from its head, its count and what its buffer holds
abbrev pub state : {S : Type 0} → Head → ℕ → List S → State S
state h count buffer = record { rule = own h; count = count; buffer = buffer }

-- the state of a watch or a summary, whatever rows it keeps
abbrev pub state_of : {S K : Type 0} → Held S K → State S
state_of x = state x.head x.count.number x.table.now

abbrev pub watch_state : {S : Type 0} → Held S FirstRow → State S
watch_state w = state_of w

abbrev pub summary_state : {S : Type 0} → Held S EachRow → State S
summary_state s = state_of s
