use Rattle.number_transform.proofs.field.+power.Given as goal

abbrev pub decreases-power : goal.decreases-power
decreases-power l = l.exponent
