use Rattle.std.proofs.Common.{rules}
use denote.Param.Always.{AskedMut}
use denote.Param.Members.{lentᵐ, step_gives}
use Rattle.std.proofs.lemmas.Iterator.{items_from_collect, maps, serves_from_Range}
use Rattle.std.proofs.iter.Yields.{nat_range_steps}
use Rattle.evaluator.proofs.Ranged.{ranged_from, row_ranged}
use Rattle.evaluator.proofs.fill.row_from_fn.Goals as goal

pub collect-requires-clause-can : goal.collect-requires-clause-can
collect-requires-clause-can g c = (tt, serves_from_Range (λ x q k. search rules) (λ x low high. search rules))

pub returns-clause-values : goal.returns-clause-values
returns-clause-values g c = λ f h.
    row_ranged g.S.Scale.algebra f c.args.size _
    (items_from_collect {steps = maps nat_range_steps record { pre = λ f a. AskedMut g.F.Fn (lentᵐ f, a); post = g.F.Fn.post; steps = g.F.Fn.steps }} {s = c.map.result} _ c.collect.ensures.ran (record { runs = ranged_from c.args.value f 0 c.args.size c.map.ensures.closure c.map.ensures.source (λ x r q low high k. (search rules, h x r low high (search (rules, step_gives)))) }))
