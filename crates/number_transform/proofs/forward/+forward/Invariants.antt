use Rattle.number_transform.proofs.forward.+forward.Given as goal

abbrev pub decreases-forward : goal.decreases-forward
decreases-forward l = l.levels
