use Rattle.std.proofs.Common.{rules}
use Rattle.scale.proofs.Codes.{taken_both}
use Rattle.scale.proofs.MarginCodes.{taken}
use Rattle.scale.specs.MarginsLemmas.{margins_sound}
use Rattle.scale.proofs.margin_code.MarginStored.take.Goals as goal

pub returns : goal.returns
returns c = taken_both margins_sound _ _ (taken c.args.bytes.now c.in_ok-code.code.now c.from_be_bytes.result c.try_from.result (λ i. (c.type_inv.bytes i).fits) (search rules) (search rules) c.from_be_bytes.ensures c.try_from.ensures)
