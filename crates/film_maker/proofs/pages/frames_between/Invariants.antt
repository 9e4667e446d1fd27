use Rattle.std.proofs.Common.{◌≡◌, ◌+◌, length}
use Rattle.model_trial.specs.MadeFilm.{frames_between}
use Rattle.film_maker.proofs.pages.frames_between.Given as goal

abbrev pub invariant-loop-before : goal.invariant-loop-before
invariant-loop-before l = l.frames + frames_between l.rest ≡ frames_between l.modes

abbrev pub decreases-loop-before : goal.decreases-loop-before
decreases-loop-before l = length l.rest
