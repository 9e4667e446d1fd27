use Rattle.cursor.proofs.tests.laps.Given as goal

abbrev pub ghosts-lap : goal.ghosts-lap
ghosts-lap g a = record { name = a.blank.name; parts = a.blank.parts }
