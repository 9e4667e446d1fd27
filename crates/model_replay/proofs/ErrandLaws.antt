-- How an errand ends: in at most six turns, without a claim, with at most one block decoded.
use Rattle.std.proofs.Common.{◌≡◌, ◌≢◌, ℕ, ◌+◌, ◌<◌, Bool, true, false, Option, Some, None, refl, arith}
use Rattle.model_replay.specs.declared.event.How.{How}
use Rattle.model_replay.specs.declared.event.How.TheVariants.{Found, Made as Decoded, Left}
use Rattle.model_replay.specs.Errands.{Step, Begin, Shown, Missed, Asked, Pinned, Unset, Leased, Alone, Made, Ended, next_of, end_of, makes, pending, turns_left}

-- each turn leaves fewer turns
pub turns_fall : (warm : Bool) (step : Step) (answer : Bool) → step ≢ Ended
    → turns_left (next_of warm step answer) < turns_left step
turns_fall warm Begin true going = omega arith
turns_fall warm Begin false going = omega arith
turns_fall warm Shown answer going = omega arith
turns_fall warm Missed true going = omega arith
turns_fall true Missed false going = omega arith
turns_fall false Missed false going = omega arith
turns_fall warm (Asked won) true going = omega arith
turns_fall warm (Asked won) false going = omega arith
turns_fall warm (Pinned won) answer going = omega arith
turns_fall warm (Unset won) true going = omega arith
turns_fall warm (Unset won) false going = omega arith
turns_fall warm (Leased won) answer going = omega arith
turns_fall warm (Alone won) answer going = omega arith
turns_fall warm (Made won) answer going = omega arith
turns_fall warm Ended answer going = absurd (going refl)

-- the number of blocks that were decoded by an errand that ends
abbrev pub made_at : Option How → ℕ
made_at None = 0
made_at (Some Found) = 0
made_at (Some Decoded) = 1
made_at (Some Left) = 0

-- an errand that ends as made has decoded one block, and any other errand none
pub blocks_add_up : (warm : Bool) (step : Step) (answer : Bool)
    → pending step + makes step
    ≡ pending (next_of warm step answer) + made_at (end_of warm step answer)
blocks_add_up warm Begin true = refl
blocks_add_up warm Begin false = refl
blocks_add_up warm Shown answer = refl
blocks_add_up warm Missed true = refl
blocks_add_up true Missed false = refl
blocks_add_up false Missed false = refl
blocks_add_up warm (Asked won) true = refl
blocks_add_up warm (Asked won) false = refl
blocks_add_up warm (Pinned won) answer = refl
blocks_add_up warm (Unset won) true = refl
blocks_add_up warm (Unset won) false = refl
blocks_add_up warm (Leased won) answer = refl
blocks_add_up warm (Alone won) answer = refl
blocks_add_up warm (Made won) answer = refl
blocks_add_up warm Ended answer = refl
