use Rattle.std.proofs.Common.{◌≡◌, ◌∙◌, ◌+◌, length, arith, rules}
use Rattle.semantics.specs.Folds.{join_over}
use Rattle.semantics.specs.Positions.{repeats}
use Rattle.evaluator.specs.Parts.{star_match, star_open}
use Rattle.evaluator.specs.Segments.{matched, opened}
use Rattle.evaluator.specs.Tables.{entry, cell}
use Rattle.evaluator.proofs.Segments.{star_matched, star_opened}
use Rattle.evaluator.proofs.segment.Pair.star.Goals as goal

pub returns : goal.returns
returns g c =
    let A = g.S.Scale.algebra in
    let n = length c.args.self.now.log.now.letters.now in
    let s = c.args.self.now.first in
    let t = c.args.self.now.second in
    let steps = c.in_ok-steps.steps in
    let either = c.in_ok-either.either in
    let joining = c.in_ok-either.ensures.values A.join (λ x y z p. search rules) in
    c.table_from_fn.ensures (star_match A (repeats A (matched A s)) (matched A t)) (star_open A n (repeats A (matched A s)) (opened A s) (opened A t))
    (λ i j x l k p.
    let e : x ≡ star_match A (cell A steps) (matched A t) i j = search rules in
    e ∙ star_matched A n s t steps _ _ _ c.args.self.now.first_sized c.deref.ensures.value c.deref-2.ensures.value c.in_ok-steps.ensures joining i j l k)
    (λ i x low l p.
    let e : x ≡ join_over A i (n + 1) (λ j. A.meet (cell A steps i j) (entry A either.items j)) = search rules in
    e ∙ star_opened A n s t steps _ _ _ c.args.self.now.first_sized c.deref.ensures.value c.deref-2.ensures.value c.in_ok-steps.ensures joining (n + 1) (omega arith) i l)
