use Rattle.cursor.proofs.tests.crosses.Given as goal

abbrev pub ghosts-cross : goal.ghosts-cross
ghosts-cross g a = record { name = a.blank.name; parts = a.blank.parts }

abbrev pub ghosts-cross_by_plan : goal.ghosts-cross_by_plan
ghosts-cross_by_plan g a = record { name = a.blank.name; parts = a.blank.parts }
