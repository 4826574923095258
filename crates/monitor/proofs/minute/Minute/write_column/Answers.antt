use Rattle.std.proofs.Common.{arith}
use Rattle.monitor.proofs.Columns.{stepped_column}
use Rattle.monitor.proofs.minute.Minute.write_column.Goals as goal
use Rattle.rule.specs.Stands.{rule_of}

pub returns : goal.returns
returns g c =
    let laid = c.args.self.now.laid.now in
    stepped_column g.S.Scale.algebra (g.L.Letter.heard c.args.self.now.letter.now) (rule_of laid.rule) c.corner_values-after.result
    c.args.values.now c.step.new.before laid.count c.args.corner c.step.result c.step.ensures.answer
    laid.counted (omega (arith, c.requires, laid.few)) (c.corner_values-after.ensures laid.count laid.few)
