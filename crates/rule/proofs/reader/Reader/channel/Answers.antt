-- Two digits are a channel. Assumes nothing.
use Rattle.std.proofs.Common.{◌≤◌, [], ◌∷◌, refl, arith, rules}
use Rattle.rule.proofs.Bytes.{tens_opens, tens_only, ones_opens, ones_only, tens_are, ones_are}
use Rattle.rule.proofs.Steps.{then_next, stops_next}
use Rattle.rule.specs.Machine.{tens, ones}
use Rattle.std.proofs.lemmas.Bool.Decides.{nat_tests}
use Rattle.rule.proofs.reader.Reader.channel.Goals as goal

pub returns-in_err-tens : goal.returns-in_err-tens
returns-in_err-tens c = search (rules, c.in_err-tens.ensures tens tens_only)

pub returns-in_err-ones : goal.returns-in_err-ones
returns-in_err-ones c =
    let first = c.in_ok-tens.ensures in
    let most = c.most_ones.result in
    let opened = rw (← c.most_ones.ensures) at (tens_opens _ first.0) in
    search (rules, stops_next (first.1 tens (ones most ∷ []) opened refl) _ (c.in_err-ones.ensures (ones most) (ones_only most)))

pub returns : goal.returns
returns c =
    let first = c.in_ok-tens.ensures in
    let second = c.in_ok-ones.ensures in
    let most = c.most_ones.result in
    let opened = rw (← c.most_ones.ensures) at (tens_opens _ first.0) in
    let few : c.in_ok-ones.ones ≤ 9 = grind (arith, nat_tests, second.0, c.most_ones.ensures) in
    rw (tens_are c.in_ok-tens.tens _ few, ones_are c.in_ok-tens.tens _ few)
    (then_next (first.1 tens (ones most ∷ []) opened refl) (second.1 (ones most) [] (ones_opens most _ second.0) refl))
