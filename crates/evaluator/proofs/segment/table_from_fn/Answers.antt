use Rattle.std.proofs.Common.{◌≡◌, suc, ◌+◌, length, subst, arith}
use Rattle.evaluator.specs.Tables.{Gridded}
use Rattle.evaluator.proofs.Segments.{ended}
use Rattle.evaluator.proofs.segment.table_from_fn.Goals as goal

pub returns : goal.returns
returns g c = λ m o h k.
    let A = g.S.Scale.algebra in
    let n = length c.args.log.now.letters.now in
    let size : n + 1 ≡ suc n = omega arith in
    record {
      matching = subst (λ s. Gridded A s m c.in_ok-matches.matches) size (c.in_ok-matches.ensures.values m (λ i j x l l' p. h i j x (omega arith) (omega arith) p));
      opening = ended A n o _ _ _ (c.in_ok-opened.ensures.values o k) c.in_ok-push.ensures.items c.best.ensures;
    }
