use Rattle.std.proofs.Common.{arith}
use Rattle.monitor.proofs.after.add_to_row.Goals as goal

pub write_row-requires-clause-column : goal.write_row-requires-clause-column
write_row-requires-clause-column g c = omega (arith, g.met.A.After.few, c.split_at_mut-front.ensures.back_len)
