use Rattle.std.proofs.Common.{◌≡◌, rules, get_or, ◌∙◌}
use Rattle.monitor.proofs.Columns.{row_given, front_read}
use Rattle.monitor.proofs.reading.MinuteAfter.entry.Goals as goal
use Rattle.monitor.specs.Work.{letter_table}
use Rattle.rule.specs.Stands.{rule_of}

pub returns : goal.returns
returns g c =
    let n = c.args.self.now.laid.now.count in
    let t = letter_table g.S.Scale.algebra (rule_of c.args.self.now.laid.now.rule) (g.L.Letter.heard c.args.self.now.letter.now) in
    let column = c.write_column.new.values in
    c.unwrap_or.ensures ∙ row_given g.S.Scale.algebra c.args.row.now n _ c.row_by.result _ (λ j. t j c.args.corner) c.row_by.ensures.answer c.requires.whole
    (λ cell l x p. let read : x ≡ get_or column cell x = search rules in
    front_read (λ j. t j c.args.corner) n column c.args.values.now cell x l c.write_column.ensures read)
