-- What the step reads: a letter's tests, the cells after it, and where a segment stands. Assumes nothing.
use Rattle.std.specs.Prelude.{ℕ, Bool, false, cond, not, List, slice_index_or}
pub use Rattle.rule.specs.Kinds.{kind_under}
use Rattle.semantics.specs.Inward.{inward}
use Rattle.cells.specs.Step.{before, befores, step}
use Rattle.cells.specs.Walk.{one_test, cell_if, enter, follow_at}
use Rattle.cells.specs.declared.place.Place.{Place}
use Rattle.letter.specs.Heard.{Heard}
use Rattle.rule.specs.declared.leaf.Test.{Test}
use Rattle.rule.specs.Tree.{Segment, Rule, letter, negated, both, any, next, until, release}
use Rattle.scale.specs.Laws.{Algebra}
use Rattle.semantics.specs.Reports.{test_on}

-- what a test is worth on a letter
abbrev pub on_letter : {S : Type 0} → Algebra S → Heard S → Test → S
on_letter A l t = test_on A t.channel t.opposite l

-- the cells of a list; past its end all are worst
abbrev pub cells_of : {S : Type 0} → Algebra S → List S → ℕ → S
cells_of A after k = slice_index_or after k A.worst

-- some match joins, every match meets
abbrev pub blended : {S : Type 0} → Algebra S → Bool → S → S → S
blended A every x y = cond every (A.meet x y) (A.join x y)

-- does a rule of two parts meet them, as `&` and R do, or join them; the flag stands for its opposite
abbrev pub meets_parts : Bool → Rule → Bool
meets_parts odd (letter t) = odd
meets_parts odd (negated r) = odd
meets_parts odd (both r s) = not odd
meets_parts odd (any r s) = odd
meets_parts odd (next k a r) = odd
meets_parts odd (until k r a s) = odd
meets_parts odd (release k r a s) = not odd

-- what comes after a test at a place: its cell, if it is inside, and the operator's, if it ends the match
abbrev pub after_test : {S : Type 0} → Algebra S → List S → Place → S
after_test A after p =
    cond p.inside
    (cond p.ends (blended A p.every (cells_of A after p.base) (cells_of A after p.op)) (cells_of A after p.base))
    (cond p.ends (cells_of A after p.op) (cond p.every A.best A.worst))

-- a test at a place, and what comes after it
abbrev pub one_test_at : {S : Type 0} → Algebra S → Heard S → List S → Place → Test → S
one_test_at A l after p t = one_test A (on_letter A l) (cells_of A after) p.op p.every t (cell_if A (on_letter A l) (cells_of A after) p.op p.inside p.base) p.ends

-- the walk into a segment at a place
abbrev pub enter_at : {S : Type 0} → Algebra S → Heard S → List S → Place → Segment → S
enter_at A l after p a = enter A (on_letter A l) (cells_of A after) p.op p.every a p.inside p.ends p.base

-- cell k of a segment's tests at a place
abbrev pub follow_from : {S : Type 0} → Algebra S → Heard S → List S → Place → Segment → S → ℕ → S
follow_from A l after p a follows k = follow_at A (on_letter A l) (cells_of A after) p.op p.every a follows p.inside p.ends p.base k

-- a rule, or its opposite, before the letter
abbrev pub rule_at : {S : Type 0} → Algebra S → Heard S → List S → Bool → Rule → ℕ → S
rule_at A l after odd r base = before A (on_letter A l) (cells_of A after) (inward odd r) base

-- a cell of its inner ones before the letter
abbrev pub inner_at : {S : Type 0} → Algebra S → Heard S → List S → Bool → Rule → ℕ → ℕ → S
inner_at A l after odd r base k = slice_index_or (befores A (on_letter A l) (cells_of A after) (inward odd r) base) k A.worst

-- all cells of a rule before the letter
abbrev pub cells_before : {S : Type 0} → Algebra S → Heard S → List S → Rule → List S
cells_before A l after r = step A (on_letter A l) (cells_of A after) (inward false r)
