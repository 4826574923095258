use Rattle.std.proofs.Common.{length, vec_items}
use Rattle.evaluator.proofs.Turning.{Partly}
use Rattle.evaluator.proofs.next.Next.turned.Given as goal

abbrev pub invariant-loop-k : goal.invariant-loop-k
invariant-loop-k g l = Partly g.S.Scale.algebra (goal.F-post g l.turn) l.self (length l.hold) l.hold l.goal l.k (vec_items l.row)
