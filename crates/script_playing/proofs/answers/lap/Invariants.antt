use Rattle.script_playing.proofs.answers.lap.Given as goal

abbrev pub ghosts-lap_open : goal.ghosts-lap_open
ghosts-lap_open a = record { name = a.blank.name; parts = a.blank.parts }
