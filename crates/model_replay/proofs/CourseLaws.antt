-- Whatever its banks answer, an errand takes one of the courses.
use Rattle.std.proofs.Common.{◌≡◌, ℕ, Bool, true, false, List, [], ◌∷◌, Some, refl}
use Rattle.model_replay.specs.Errands.{Begin}
use Rattle.model_replay.specs.Courses.{Course, BlockFound, BlockHeld, SetupFound, SetupWon, SetupHeld, events_in, how_of, IsCourseOf, turns}

-- Six turns are enough. What stands as the answer of a turn that asks nothing does not count.
pub takes_a_course : (block link : ℕ) (warm a b c d e f : Bool)
    → (course : Course) × IsCourseOf warm course
    × (turns block link warm Begin (a ∷ b ∷ c ∷ d ∷ e ∷ f ∷ [])
    ≡ (events_in block link course, Some (how_of course)))
unfolding turns
takes_a_course block link true true b c d e f = (BlockFound, tt, refl)
takes_a_course block link false true b c d e f = (BlockFound, tt, refl)
takes_a_course block link true false false c d e f = (BlockHeld, tt, refl)
takes_a_course block link false false false true d e f = (SetupFound false, tt, refl)
takes_a_course block link false false false false true e f = (SetupWon false, tt, refl)
takes_a_course block link false false false false false e f = (SetupHeld false, tt, refl)
takes_a_course block link true false true true d e f = (SetupFound true, tt, refl)
takes_a_course block link false false true true d e f = (SetupFound true, tt, refl)
takes_a_course block link true false true false true e f = (SetupWon true, tt, refl)
takes_a_course block link false false true false true e f = (SetupWon true, tt, refl)
takes_a_course block link true false true false false e f = (SetupHeld true, tt, refl)
takes_a_course block link false false true false false e f = (SetupHeld true, tt, refl)
