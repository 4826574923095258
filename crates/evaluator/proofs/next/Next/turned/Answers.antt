use Rattle.std.proofs.Common.{◌-◌, ◌<◌, length, vec_items, refl, ap, ◌∙◌, arith}
use Rattle.evaluator.specs.Segments.{next_is}
use Rattle.evaluator.specs.Tables.{entry}
use Rattle.evaluator.proofs.Turning.{partly_more}
use Rattle.std.proofs.lemmas.List.{get_or_read}
use Rattle.evaluator.proofs.next.Next.turned.Goals as goal

pub loop-k-preserved : goal.loop-k-preserved
loop-k-preserved g c =
    let A = g.S.Scale.algebra in
    let k = c.loop-k.k - 1 in
    let row = vec_items c.loop-k.row in
    let next = c.args.self.now in
    let inside : k < length c.args.hold.now = omega arith in
    partly_more A (goal.F-post g c.args.turn) next (length c.args.hold.now) c.args.hold.now c.args.goal.now k c.loop-k.k row _ c.turn.result
    inside (omega arith) c.loop-k.invariant refl _ _ _
    (get_or_read c.args.goal.now _ _ (omega (arith, c.requires.both)) c.index-goal-k.is A.worst)
    (get_or_read c.args.hold.now _ _ inside c.index-hold-k.is A.worst)
    (c.at-ahead.ensures ∙ ap (λ xs. next_is A next (length xs) (entry A xs) k) c.deref.ensures.value
    ∙ ap (λ n. next_is A next n (entry A row) k) c.loop-k.invariant.0)
    c.turn.ensures
