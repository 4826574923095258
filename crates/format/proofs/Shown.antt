-- The worked card is as shown. Assumes nothing.
use Rattle.std.proofs.Common.{◌≡◌, ℕ, false, List, [], ◌∷◌, ◌++◌, refl, ap, ◌∙◌, ap₂}
use Rattle.cells.specs.Shape.{tests, firsts, endings, followers}
use Rattle.cells.specs.Step.{inner_cells, before, befores}
use Rattle.cells.specs.Tables.{table_of}
use Rattle.format.specs.Bytes.{four_bytes, field, codes_of}
use Rattle.format.specs.Example.{example_bytes, ExampleCard}
use Rattle.format.proofs.Summed.{values_held}
use Rattle.letter.specs.Bits.{bits_heard}
use Rattle.letter.specs.Heard.{Heard}
use Rattle.rule.specs.Spelling.{spelled}
use Rattle.rule.specs.Tree.{Rule}
use Rattle.runs.proofs.Engine.{engine}
use Rattle.runs.proofs.Holding.{made_held}
use Rattle.runs.specs.States.{cells_of_rule, rows}
use Rattle.scale.proofs.VerdictLaws.{verdicts_lawful}
use Rattle.scale.specs.declared.verdict.Verdict.{Verdict}
use Rattle.scale.specs.VerdictCode.{verdict_coding}
use Rattle.scale.specs.Verdicts.{verdicts}
use Rattle.semantics.specs.Examples.{off_until_on}
use Rattle.semantics.specs.Inward.{inward}

abbrev log : List (Heard Verdict)
log = bits_heard (record { word = 0 }) ∷ []

-- the rows of the log, by a rule's name
abbrev rows_for : Rule → List Verdict
rows_for r = rows (cells_of_rule r) (cells_of_rule r) (table_of verdicts (inward false r) log)

-- a card from its rule, count and rows
abbrev card_from : Rule → ℕ × List Verdict → List ℕ
card_from r x = field 1 (spelled r) ++ (field 2 (1 ∷ []) ++ (field 3 (four_bytes x.0) ++ field 4 (codes_of verdict_coding x.1)))

shown : card_from off_until_on (1, rows_for off_until_on) ≡ example_bytes
unfolding rows inward tests firsts endings followers inner_cells before befores
shown = refl

pub example_card : ExampleCard
example_card s made =
    let held = made_held (engine verdicts_lawful) made in
    ap₂ card_from held.1 (ap₂ (λ (n : ℕ) (values : List Verdict). (n, values)) held.0.counts
    (values_held s log held.0 ∙ ap rows_for held.1)) ∙ shown
