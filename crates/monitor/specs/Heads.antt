-- The rule that the head of a watch or a summary names by its text. Assumes nothing: that the text spells the rule is said
-- wherever a head is made, and no text spells two rules.
use Rattle.std.specs.Prelude.{ℕ, List}
use Rattle.rule.proofs.Sentences.{named}
use Rattle.rule.specs.Tree.{Rule}

-- the rule that a text spells; of a text that spells none, some rule
abbrev pub rule_named : List ℕ → Rule
rule_named text = named text
