use Rattle.semantics.proofs.BitLogs.{bits_settle, bits_two_way}
use Rattle.semantics.proofs.Ground.{ground}
use Rattle.semantics.proofs.Longer.{later}
use Rattle.semantics.proofs.Rising.{floor_verdict_ceiling}
use Rattle.semantics.proofs.Sanity.{sane}
use Rattle.semantics.proofs.Settling.{settles}
use Rattle.semantics.proofs.Worked.{examples}
use Rattle.evaluator.proofs.report.judge_log.Goals as goal

pub returns : goal.returns
returns g c =
    let laws = g.met.S.Scale.lawful in
    record {
      answer = c.judged.ensures;
      ground = ground laws;
      ordered = floor_verdict_ceiling laws;
      later = later laws;
      settles = settles laws;
      sane = sane g.S.Scale.algebra;
      bits = bits_settle;
      bits_two_way = bits_two_way;
      examples = examples;
    }
