-- The reading of the whole text is the text's one answer. Assumes nothing.
use Rattle.std.proofs.Common.{arith, rules}
use Rattle.std.proofs.lemmas.Bool.Decides.{nat_tests}
use Rattle.rule.proofs.Answer.{failed, bytes_left, all_read}
use Rattle.rule.proofs.read.read_rule.Goals as goal

pub returns-in_err-rule : goal.returns-in_err-rule
returns-in_err-rule c =
    search (rules, failed c.args.text.now c.new-reader.result c.new-reader.ensures.rest c.new-reader.ensures.at c.new-reader.ensures.nodes (search rules, search rules) _ c.in_err-rule.ensures)

pub returns-then-not-is_empty : goal.returns-then-not-is_empty
returns-then-not-is_empty c =
    bytes_left c.args.text.now c.new-reader.result c.new-reader.ensures.rest c.new-reader.ensures.at c.new-reader.ensures.nodes (search rules, search rules) c.rule.new.self _ c.in_ok-rule.ensures (grind (arith, nat_tests, c.if-not-is_empty.ensures))

pub returns : goal.returns
returns c =
    all_read c.args.text.now c.new-reader.result c.new-reader.ensures.rest c.new-reader.ensures.at c.new-reader.ensures.nodes (search rules, search rules) c.rule.new.self _ c.in_ok-rule.ensures (grind (arith, nat_tests, c.if-not-is_empty.ensures))
