-- Driving `!` inward keeps the cells. Assumes nothing.
use Rattle.std.proofs.Common.{◌≡◌, suc, ◌+◌, Bool, true, false, refl, ap, ap₂}
use Rattle.semantics.specs.Inward.{inward}
use Rattle.cells.specs.Step.{test_cells, inner_cells}
use Rattle.rule.specs.Tree.{Rule, letter, negated, both, any, next, until, release}

pub inward_cells : (odd : Bool) (r : Rule) → inner_cells (inward odd r) ≡ inner_cells r
unfolding inner_cells inward
inward_cells false (letter t) = refl
inward_cells true (letter t) = refl
inward_cells false (negated r) = inward_cells true r
inward_cells true (negated r) = inward_cells false r
inward_cells false (both r s) = ap₂ ◌+◌ (inward_cells false r) (inward_cells false s)
inward_cells true (both r s) = ap₂ ◌+◌ (inward_cells true r) (inward_cells true s)
inward_cells false (any r s) = ap₂ ◌+◌ (inward_cells false r) (inward_cells false s)
inward_cells true (any r s) = ap₂ ◌+◌ (inward_cells true r) (inward_cells true s)
inward_cells false (next k a r) = ap (λ n. suc (test_cells a + n)) (inward_cells false r)
inward_cells true (next k a r) = ap (λ n. suc (test_cells a + n)) (inward_cells true r)
inward_cells false (until k r a s) = ap₂ (λ m n. suc (m + (test_cells a + n))) (inward_cells false r) (inward_cells false s)
inward_cells true (until k r a s) = ap₂ (λ m n. suc (m + (test_cells a + n))) (inward_cells true r) (inward_cells true s)
inward_cells false (release k r a s) = ap₂ (λ m n. suc (m + (test_cells a + n))) (inward_cells false r) (inward_cells false s)
inward_cells true (release k r a s) = ap₂ (λ m n. suc (m + (test_cells a + n))) (inward_cells true r) (inward_cells true s)
