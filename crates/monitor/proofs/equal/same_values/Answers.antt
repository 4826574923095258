use Rattle.std.proofs.Common.{rules}
use Rattle.monitor.proofs.equal.same_values.Goals as goal
use Rattle.std.proofs.lemmas.Iterator.{YieldsList-from_slice, YieldsList-from_zip, same_from_all}

pub returns-then-first-second : goal.returns-then-first-second
returns-then-first-second g c = same_from_all c.all.new.self _ _ c.args.first.now c.args.second.now c.all.ensures.ran
    (YieldsList-from_zip (YieldsList-from_slice c.args.first.now (search rules)) (YieldsList-from_slice c.args.second.now (search rules))) c.if-first-second.true
    (λ x q k. search rules) (λ x q k. search rules)
