use Rattle.std.proofs.Common.{◌≡◌, ◌-◌, ◌+◌, ◌%◌, ◌^◌, []}
use Rattle.model_trial.specs.declared.numbers.TheConstants.{MADE_LANES}
use Rattle.model_trial.specs.Draws.{generator}
use Rattle.model_trial.specs.MadeScript.{drawn_lane}
use Rattle.film_maker.proofs.DrawnLines.{whole, lane_text}
use Rattle.film_maker.proofs.script.make_script.Given as goal

abbrev pub invariant-loop : goal.invariant-loop
invariant-loop l =
    whole drawn_lane lane_text l.bytes.items (MADE_LANES - l.counter) l.draws
    ≡ whole drawn_lane lane_text [] (MADE_LANES - 0) (generator ((l.number + 1) % 2 ^ 64))
