-- A sign is one byte, and any other byte is not allowed. Assumes nothing.
use Rattle.std.proofs.Common.{◌≡◌, ◌+◌, refl, arith, rules}
use Rattle.fault.specs.declared.TextCause.TheVariants.{Byte, Nodes}
use Rattle.rule.specs.Machine.{weight}
use Rattle.rule.proofs.Shapes.{light}
use Rattle.rule.proofs.Steps.{early, bad, full, step, shorter}
use Rattle.rule.proofs.reader.Reader.sign.Goals as goal

pub returns-in_err-byte : goal.returns-in_err-byte
returns-in_err-byte g c = search (rules, early)

pub returns-in-Err : goal.returns-in-Err
returns-in-Err g c =
    let known = g.met.S.Sign.laws.known c.in_ok-byte.byte _ c.in-Err.ensures in
    rw known.1 (bad c.args.self.now g.S.Sign.want _ _ c.in_ok-byte.ensures known.0, Byte, refl)

pub returns-then-self-NODES-gt-MOST_NODES : goal.returns-then-self-NODES-gt-MOST_NODES
returns-then-self-NODES-gt-MOST_NODES g c =
    let laws = g.met.S.Sign.laws in
    let sign = laws.known c.in_ok-byte.byte _ c.in-Ok.ensures in
    let many : c.args.self.now.nodes + weight g.S.Sign.want ≡ 49 = omega (arith, laws.weighed, light g.S.Sign.want, c.args.self.now.few) in
    (full c.args.self.now g.S.Sign.want _ _ c.in_ok-byte.ensures (laws.opened c.in-Ok.sign _ sign) many, Nodes, refl)

pub returns : goal.returns
returns g c =
    let laws = g.met.S.Sign.laws in
    let sign = laws.known c.in_ok-byte.byte _ c.in-Ok.ensures in
    let here = c.in_ok-byte.ensures in
    let on = rw c.NODES-2.ensures at c.advance.ensures in
    (shorter here on, rw sign (step c.args.self.now g.S.Sign.want _ _ here (laws.opened c.in-Ok.sign _ sign) g.S.Sign.NODES _ laws.weighed on))
