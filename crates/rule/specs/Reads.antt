-- What reading a text answers. Assumes nothing.
use Rattle.std.specs.Prelude.{ℕ, List, Ok, Err, Result}
use Rattle.fault.specs.declared.TextFault.{TextFault}
use Rattle.fault.specs.declared.TextFault.TheVariants.{Refused, NoMemory}
use Rattle.rule.specs.declared.tree.Rule.{Rule}
use Rattle.rule.specs.Reading.{Only, accepted, refused}
use Rattle.rule.specs.Stands.{rule_of}

-- the one answer that the text has; want of memory says nothing of the text
abbrev pub Reads : List ℕ → Result Rule TextFault → Type 0
Reads t (Ok r) = Only t (accepted (rule_of r))
Reads t (Err (Refused cause p)) = Only t (refused cause p)
Reads t (Err NoMemory) = Unit {0}
