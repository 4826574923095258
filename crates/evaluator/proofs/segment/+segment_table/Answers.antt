use Rattle.std.proofs.Common.{map, length, sym, ap, ◌∙◌, ap₂}
use Rattle.rule.specs.Stands.{segment_of}
use Rattle.rule.specs.Tree.{either, chain, star}
use Rattle.semantics.specs.Reports.{value_on}
use Rattle.evaluator.proofs.Segments.{single_whole, either_whole, chain_whole, star_whole}
use Rattle.evaluator.proofs.segment.+segment_table.Goals as goal
use Rattle.std.proofs.lemmas.List.{length-map}

pub returns-in_ok-letter_row-in-Single : goal.returns-in_ok-letter_row-in-Single
returns-in_ok-letter_row-in-Single g t c =
    let A = g.S.Scale.algebra in
    let letters = c.args.log.now.letters.now in
    let log = map g.L.Letter.heard letters in
    single_whole A (value_on A log) (length log) (length letters) (sym (length-map letters g.L.Letter.heard)) _ _ c.in-Single.test _ _
    (ap segment_of c.in-Single.is) c.deref.ensures.value c.in_ok-letter_row-in-Single.ensures c.single_table.ensures

pub returns-in_ok-second-in-Either : goal.returns-in_ok-second-in-Either
returns-in_ok-second-in-Either g t c =
    let A = g.S.Scale.algebra in
    let letters = c.args.log.now.letters.now in
    let log = map g.L.Letter.heard letters in
    either_whole A (value_on A log) (length log) (length letters) (sym (length-map letters g.L.Letter.heard)) _ _ _ _
    c.in_ok-first-in-Either.first c.in_ok-second-in-Either.second c.in_ok-first-in-Either.ensures c.in_ok-second-in-Either.ensures
    (ap segment_of c.in-Either.is ∙ sym (ap₂ either (ap segment_of c.deref-in-Either.ensures) (ap segment_of c.deref-in-Either-2.ensures))) c.either.ensures

pub returns-in_ok-second-in-Chain : goal.returns-in_ok-second-in-Chain
returns-in_ok-second-in-Chain g t c =
    let A = g.S.Scale.algebra in
    let letters = c.args.log.now.letters.now in
    let log = map g.L.Letter.heard letters in
    chain_whole A (value_on A log) (length log) (length letters) (sym (length-map letters g.L.Letter.heard)) _ _ _ _
    c.in_ok-first-in-Chain.first c.in_ok-second-in-Chain.second c.in_ok-first-in-Chain.ensures c.in_ok-second-in-Chain.ensures
    (ap segment_of c.in-Chain.is ∙ sym (ap₂ chain (ap segment_of c.deref-in-Chain.ensures) (ap segment_of c.deref-in-Chain-2.ensures))) c.chain.ensures

pub returns-in_ok-second-in-Star : goal.returns-in_ok-second-in-Star
returns-in_ok-second-in-Star g t c =
    let A = g.S.Scale.algebra in
    let letters = c.args.log.now.letters.now in
    let log = map g.L.Letter.heard letters in
    star_whole A (value_on A log) (length log) (length letters) (sym (length-map letters g.L.Letter.heard)) _ _ _ _
    c.in_ok-first-in-Star.first c.in_ok-second-in-Star.second c.in_ok-first-in-Star.ensures c.in_ok-second-in-Star.ensures
    (ap segment_of c.in-Star.is ∙ sym (ap₂ star (ap segment_of c.deref-in-Star.ensures) (ap segment_of c.deref-in-Star-2.ensures))) c.star.ensures
