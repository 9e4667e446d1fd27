use Rattle.number_transform.proofs.inverse.+inverse.Given as goal

abbrev pub decreases-inverse : goal.decreases-inverse
decreases-inverse l = l.levels
