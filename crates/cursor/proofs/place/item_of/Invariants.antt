use Rattle.cursor.proofs.place.item_of.Given as goal

abbrev pub ghosts-last_start : goal.ghosts-last_start
ghosts-last_start a = record { name = a.blank.name; parts = a.blank.parts }
