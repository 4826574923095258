-- A rule that a text is accepted as is small, and how many cells it has. Assumes nothing.
use Rattle.std.proofs.Common.{◌≡◌, ℕ, ◌+◌, ◌≤◌, false, List, ap, arith}
use Rattle.semantics.specs.Inward.{inward}
use Rattle.cells.specs.Step.{inner_cells, cell_count}
use Rattle.cells.proofs.Counts.{inward_cells}
use Rattle.rule.proofs.Sentences.{nodes_spelled}
use Rattle.rule.specs.Reading.{nodes, Accepted}
use Rattle.rule.specs.Size.{size}
use Rattle.rule.specs.Tree.{Rule}

pub small : (t : List ℕ) (r : Rule) → Accepted t r → size r ≤ 48
small t r a = omega (arith, nodes_spelled r, ap nodes a.spelling, a.few)

pub all_cells : (r : Rule) (n : ℕ) → n ≡ inner_cells r → 1 + n ≡ cell_count (inward false r)
all_cells r n e = omega (arith, e, inward_cells false r)
