use Rattle.script_playing.proofs.crosses.cross_from.Given as goal

abbrev pub ghosts-cross_open : goal.ghosts-cross_open
ghosts-cross_open a = record { name = a.blank.name; parts = a.blank.parts }
