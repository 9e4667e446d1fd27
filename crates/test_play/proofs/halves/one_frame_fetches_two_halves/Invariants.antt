use Rattle.test_play.proofs.halves.one_frame_fetches_two_halves.Given as goal

abbrev pub ghosts-fetched : goal.ghosts-fetched
ghosts-fetched g a = record { name = a.blank.name; parts = a.blank.parts }
