use Rattle.texts.proofs.hex.+significant.Given as goal

abbrev pub decreases-significant : goal.decreases-significant
decreases-significant l = l.n
