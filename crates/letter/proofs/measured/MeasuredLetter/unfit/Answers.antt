use Rattle.std.proofs.Common.{◌≡◌, true, false, rules}
use Rattle.letter.proofs.Readings.{lowest_first}
use Rattle.letter.specs.Measured.{channel_unfit}
use Rattle.std.proofs.lemmas.Iterator.{first_from_Range}
use Rattle.letter.proofs.measured.MeasuredLetter.unfit.Goals as goal

pub returns : goal.returns
returns c =
    let unfit = channel_unfit c.args.self.now in
    lowest_first unfit 16 0 _
    (first_from_Range _ _ _ _ (λ k. unfit k ≡ true) (λ k. unfit k ≡ false) c.find.ensures.ran (λ x q k. search rules) (λ x q k. search rules))
