use Rattle.std.proofs.Common.{◌≡◌, suc, ap, ◌∙◌, length, rules}
use Rattle.semantics.specs.Folds.{join_over}
use Rattle.evaluator.specs.Parts.{chain_match, chain_open}
use Rattle.evaluator.specs.Segments.{matched, opened}
use Rattle.evaluator.proofs.segment.Pair.chain.Goals as goal

pub returns : goal.returns
returns g c =
    let A = g.S.Scale.algebra in
    let s = c.args.self.now.first in
    let t = c.args.self.now.second in
    c.table_from_fn.ensures (chain_match A (matched A s) (matched A t)) (chain_open A (length c.args.self.now.log.now.letters.now) (matched A s) (opened A s) (opened A t))
    (λ i j x l k p. search rules)
    (λ i x l k p.
    let onward : x ≡ A.join (opened A s i) (join_over A (suc i) s.matches.size (λ j. A.meet (matched A s i j) (opened A t j))) = search rules in
    onward ∙ ap (λ size. A.join (opened A s i) (join_over A (suc i) size (λ j. A.meet (matched A s i j) (opened A t j)))) c.args.self.now.first_sized)
