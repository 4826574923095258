-- A digit is one byte within its bounds, and any other byte is not allowed. Assumes nothing.
use Rattle.std.proofs.Common.{◌≡◌, ℕ, is_le, nat_cmp, sym, ◌+◌, ◌-◌, ◌≤◌, false, ◌&&◌, leb, arith, rules}
use Rattle.rule.proofs.Steps.{early, bad, step}
use Rattle.std.proofs.lemmas.Bool.Decides.{nat_tests}
use Rattle.std.proofs.lemmas.Map.Keys.{le_from_is_le}
use Rattle.rule.proofs.reader.Reader.digit.Goals as goal

is_le-nat_cmp : (a b : ℕ) → is_le (nat_cmp a b) ≡ leb a b
is_le-nat_cmp a b = grind (arith, nat_tests)

pub returns-in_err-byte : goal.returns-in_err-byte
returns-in_err-byte c = search (rules, early)

pub returns-then-not-contains : goal.returns-then-not-contains
returns-then-not-contains c =
    let e = rw (c.new.ensures.start, c.new.ensures.end, c.new.ensures.exhausted) at c.if-not-contains.ensures.value in
    let out : (leb 48 c.in_ok-byte.byte && leb c.in_ok-byte.byte (48 + c.args.most)) ≡ false = rw (← (is_le-nat_cmp 48 c.in_ok-byte.byte), ← (is_le-nat_cmp c.in_ok-byte.byte (48 + c.args.most))) (sym e) in
    λ w only. bad c.args.self.now w _ _ c.in_ok-byte.ensures (only _ out)

pub returns : goal.returns
returns c =
    let e = c.if-not-contains.ensures.cases in
    let from : 48 ≤ c.in_ok-byte.byte = le_from_is_le 48 _ (rw c.new.ensures.start at e.0) in
    let to : c.in_ok-byte.byte ≤ 48 + c.args.most = le_from_is_le _ (48 + c.args.most) (rw c.new.ensures.end at e.1) in
    let same : 48 + (c.in_ok-byte.byte - 48) ≡ c.in_ok-byte.byte = omega arith in
    rw same (omega arith, λ w left allowed weighs. step c.args.self.now w _ left c.in_ok-byte.ensures allowed 0 _ weighs c.advance.ensures)
