use Rattle.crosscheck.proofs.texts.Drawing.+put_rule.Given as goal

abbrev pub decreases-put_rule : goal.decreases-put_rule
decreases-put_rule l = l.depth
