use Rattle.crosscheck.proofs.texts.Drawing.+put_segment.Given as goal

abbrev pub decreases-put_segment : goal.decreases-put_segment
decreases-put_segment l = l.depth
