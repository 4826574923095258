use Rattle.std.proofs.Common.{sym, arith}
use Rattle.letter.proofs.Readings.{fit_value}
use Rattle.letter.proofs.measured.MeasuredLetter.value.Goals as goal

pub returns : goal.returns
returns c =
    fit_value c.args.self.now c.args.channel c.over.result (omega arith) (sym c.if-is_unfit.ensures) c.over.ensures
