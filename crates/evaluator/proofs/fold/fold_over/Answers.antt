use Rattle.std.proofs.Common.{rules, ◌≡◌, [], ◌∷◌, ◌-◌, refl, sym, ap, ◌∙◌}
use Rattle.std.specs.List.{fold}
use denote.Param.Always.{AskedMut}
use denote.Param.Members.{lentᵐ, step_gives}
use Rattle.std.proofs.lemmas.Fn.{fold_over}
use Rattle.std.proofs.lemmas.Grind.{fold-append}
use Rattle.std.proofs.lemmas.Iterator.{maps, serves_from_Range}
use Rattle.std.proofs.iter.Yields.{nat_range_steps}
use Rattle.evaluator.proofs.Ranged.{ranged_from, fold_along}
use Rattle.evaluator.proofs.fold.fold_over.Goals as goal

pub fold-requires-clause-can : goal.fold-requires-clause-can
fold-requires-clause-can g c = (tt, serves_from_Range (λ x q k. search rules) (λ x low high. search rules))

pub returns : goal.returns
returns g c = λ m f by h.
    fold_over (maps nat_range_steps record { pre = λ f a. AskedMut g.F.Fn (lentᵐ f, a); post = g.F.Fn.post; steps = g.F.Fn.steps }) (λ x. x) record { pre = λ f a. AskedMut g.M.Fn (lentᵐ f, a); post = g.M.Fn.post; steps = g.M.Fn.steps } (λ ys a. a ≡ fold m c.args.start ys) c.args.merge
    (λ ys a x b q e k. (by a x b (search (rules, step_gives)) ∙ ap (λ s. m s x) e ∙ sym (fold-append m c.args.start ys (x ∷ [])), search rules))
    c.map.result _ c.args.start _
    (ranged_from c.args.value f c.args.low c.args.high c.map.ensures.closure c.map.ensures.source (λ x r q low high k. (search rules, h x r low high (search (rules, step_gives)))))
    refl c.fold.ensures.ran
    ∙ fold_along m c.args.start c.args.low f (c.args.high - c.args.low)
