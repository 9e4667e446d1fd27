use Rattle.granule_seek.proofs.tests.finds_the_last_place.Given as goal

abbrev pub ghosts-place_in : goal.ghosts-place_in
ghosts-place_in g a = record { name = a.blank.name; parts = a.blank.parts }
