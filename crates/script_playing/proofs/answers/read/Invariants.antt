use Rattle.script_playing.proofs.answers.read.Given as goal

abbrev pub ghosts-read_open : goal.ghosts-read_open
ghosts-read_open a = record { name = a.blank.name; parts = a.blank.parts }
