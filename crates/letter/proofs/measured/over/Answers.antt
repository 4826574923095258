use Rattle.std.proofs.Common.{pos, ◌+ℤ◌, ◌-ℤ◌, ◌*ℤ◌, arith}
use Rattle.letter.proofs.Readings.{ends}
use Rattle.scale.specs.MarginsLemmas.{margin_of_number}
use Rattle.std.proofs.lemmas.Int.{ints}
use Rattle.letter.proofs.measured.over.Goals as goal

pub returns : goal.returns
returns c =
    let r = ends c.args.reading c.requires.reading in
    let s = ends c.args.limit c.requires.limit in
    margin_of_number _ (pos 2 *ℤ (c.args.reading -ℤ c.args.limit) +ℤ pos 1) (omega (arith, ints))
