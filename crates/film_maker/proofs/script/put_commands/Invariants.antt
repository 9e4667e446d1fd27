use Rattle.std.proofs.Common.{◌≡◌, ◌-◌}
use Rattle.model_trial.specs.declared.numbers.TheConstants.{MADE_COMMANDS}
use Rattle.model_trial.specs.MadeScript.{command_line, drawn_command}
use Rattle.film_maker.proofs.DrawnLines.{whole}
use Rattle.film_maker.proofs.script.put_commands.Given as goal

abbrev pub invariant-loop : goal.invariant-loop
invariant-loop l =
    whole drawn_command command_line l.bytes.items (MADE_COMMANDS - l.counter) l.draws
    ≡ whole drawn_command command_line l.fn.bytes.items (MADE_COMMANDS - 0) l.fn.draws
