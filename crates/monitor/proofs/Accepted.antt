-- The head of a laid rule: the text names the rule that it spells. Assumes nothing.
use Rattle.std.proofs.Common.{◌≡◌, ℕ, List, ap, ◌∙◌}
use Rattle.monitor.specs.Heads.{rule_named}
use Rattle.rule.specs.Spelling.{spelled}
use Rattle.rule.specs.Tree.{Rule}
use Rattle.rule.proofs.Sentences.{named, named_spelled}

-- a text that spells a rule names it
pub names : (text : List ℕ) (r : Rule) → text ≡ spelled r → rule_named text ≡ r
names text r e = ap named e ∙ named_spelled r
