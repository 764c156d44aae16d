use Rattle.vectors.proofs.edits.fill.Given as goal

abbrev pub decreases-loop-missing : goal.decreases-loop-missing
decreases-loop-missing l = l.missing
