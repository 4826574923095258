use Rattle.std.proofs.Common.{map, length, vec_items, sym, ap, ◌∙◌, ap₂, rules}
use Rattle.rule.specs.Stands.{segment_of, rule_of}
use Rattle.rule.specs.Tree.{negated, both, any, next, until, release}
use Rattle.evaluator.specs.Markings.{marks_of}
use Rattle.semantics.specs.Reports.{value_on}
use Rattle.evaluator.proofs.Rules.{ap₃, letter_whole, negated_whole, both_whole, any_whole, next_whole, until_whole, release_whole}
use Rattle.evaluator.proofs.worth.+rule_row.Goals as goal
use Rattle.std.proofs.lemmas.List.{length-map}

pub returns-in-Letter : goal.returns-in-Letter
returns-in-Letter g t c =
    let A = g.S.Scale.algebra in
    let log = map g.L.Letter.heard c.args.log.now.letters.now in
    letter_whole A (value_on A log) (length log) (marks_of A c.args.marking.value) c.args.marking.odd c.letter_row.result (λ row. vec_items row) _ c.in-Letter.test _
    (sym (length-map c.args.log.now.letters.now g.L.Letter.heard)) (ap rule_of c.in-Letter.is) c.letter_row.ensures

pub returns-in_ok-row-in-Negated : goal.returns-in_ok-row-in-Negated
returns-in_ok-row-in-Negated g t c =
    let A = g.S.Scale.algebra in
    let log = map g.L.Letter.heard c.args.log.now.letters.now in
    negated_whole A (value_on A log) (length log) (marks_of A c.args.marking.value) c.args.marking.odd c.opposite_row.result (λ row. vec_items row) _ _ _ _
    c.deref-in-Negated.ensures.value c.in_ok-row-in-Negated.ensures (ap rule_of c.in-Negated.is ∙ sym (ap negated (ap rule_of c.deref.ensures))) c.opposite_row.ensures

pub returns-in_ok-second-in-Both : goal.returns-in_ok-second-in-Both
returns-in_ok-second-in-Both g t c =
    let A = g.S.Scale.algebra in
    let log = map g.L.Letter.heard c.args.log.now.letters.now in
    both_whole A (value_on A log) (length log) (marks_of A c.args.marking.value) c.args.marking.odd c.merged_row.result (λ row. vec_items row) _ _ _ _ _ _ _
    c.deref-in-Both-3.ensures.value c.deref-in-Both-4.ensures.value c.in_ok-first-in-Both.ensures c.in_ok-second-in-Both.ensures
    (ap rule_of c.in-Both.is ∙ sym (ap₂ both (ap rule_of c.deref-in-Both.ensures) (ap rule_of c.deref-in-Both-2.ensures)))
    (c.merged_row.ensures.values A.meet (λ x y z p. search rules))

pub returns-in_ok-second-in-Any : goal.returns-in_ok-second-in-Any
returns-in_ok-second-in-Any g t c =
    let A = g.S.Scale.algebra in
    let log = map g.L.Letter.heard c.args.log.now.letters.now in
    any_whole A (value_on A log) (length log) (marks_of A c.args.marking.value) c.args.marking.odd c.merged_row-in-Any.result (λ row. vec_items row) _ _ _ _ _ _ _
    c.deref-in-Any-3.ensures.value c.deref-in-Any-4.ensures.value c.in_ok-first-in-Any.ensures c.in_ok-second-in-Any.ensures
    (ap rule_of c.in-Any.is ∙ sym (ap₂ any (ap rule_of c.deref-in-Any.ensures) (ap rule_of c.deref-in-Any-2.ensures)))
    (c.merged_row-in-Any.ensures.values A.join (λ x y z p. search rules))

pub returns-in_ok-after-in-Next : goal.returns-in_ok-after-in-Next
returns-in_ok-after-in-Next g t c =
    let A = g.S.Scale.algebra in
    let log = map g.L.Letter.heard c.args.log.now.letters.now in
    next_whole A (value_on A log) (length log) (marks_of A c.args.marking.value) c.args.marking.odd c.row.result (λ row. vec_items row) _ _ _ c.in_ok-next-in-Next.next
    c.in_ok-next-in-Next.ensures.kinded c.in_ok-next-in-Next.ensures.tabled c.in_ok-next-in-Next.ensures.marked _ _ _ c.deref-in-Next-3.ensures.value c.in_ok-after-in-Next.ensures
    (ap rule_of c.in-Next.is ∙ sym (ap₂ (next c.in-Next.kind) (ap segment_of c.deref-in-Next.ensures) (ap rule_of c.deref-in-Next-2.ensures))) c.row.ensures

pub returns-in_ok-goal-in-Until : goal.returns-in_ok-goal-in-Until
returns-in_ok-goal-in-Until g t c =
    let A = g.S.Scale.algebra in
    let log = map g.L.Letter.heard c.args.log.now.letters.now in
    until_whole A (value_on A log) (length log) (marks_of A c.args.marking.value) c.args.marking.odd c.turned.result (λ row. vec_items row) _ _ _ c.in_ok-next-in-Until.next
    c.in_ok-next-in-Until.ensures.kinded c.in_ok-next-in-Until.ensures.tabled c.in_ok-next-in-Until.ensures.marked _ _ _ _ _ _
    c.deref-in-Until-4.ensures.value c.deref-in-Until-5.ensures.value c.in_ok-hold-in-Until.ensures c.in_ok-goal-in-Until.ensures
    (ap rule_of c.in-Until.is ∙ sym (ap₃ (until c.in-Until.kind) (ap rule_of c.deref-in-Until.ensures) (ap segment_of c.deref-in-Until-2.ensures) (ap rule_of c.deref-in-Until-3.ensures)))
    (c.turned.ensures (λ g h x. A.join g (A.meet h x)) (λ g h x r p. search rules))

pub returns-in_ok-goal-in-Release : goal.returns-in_ok-goal-in-Release
returns-in_ok-goal-in-Release g t c =
    let A = g.S.Scale.algebra in
    let log = map g.L.Letter.heard c.args.log.now.letters.now in
    release_whole A (value_on A log) (length log) (marks_of A c.args.marking.value) c.args.marking.odd c.turned-in-Release.result (λ row. vec_items row) _ _ _ c.in_ok-next-in-Release.next
    c.in_ok-next-in-Release.ensures.kinded c.in_ok-next-in-Release.ensures.tabled c.in_ok-next-in-Release.ensures.marked _ _ _ _ _ _
    c.deref-in-Release-4.ensures.value c.deref-in-Release-5.ensures.value c.in_ok-hold-in-Release.ensures c.in_ok-goal-in-Release.ensures
    (ap rule_of c.in-Release.is ∙ sym (ap₃ (release c.in-Release.kind) (ap rule_of c.deref-in-Release.ensures) (ap segment_of c.deref-in-Release-2.ensures) (ap rule_of c.deref-in-Release-3.ensures)))
    (c.turned-in-Release.ensures (λ g h x. A.meet g (A.join h x)) (λ g h x r p. search rules))
