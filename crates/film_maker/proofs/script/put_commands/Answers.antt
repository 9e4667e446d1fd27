use Rattle.std.proofs.Common.{◌∙◌, ap, List, ℕ, arith}
use Rattle.rand_pcg.specs.Lcg.{Lcg}
use Rattle.model_trial.specs.declared.numbers.TheConstants.{MADE_COMMANDS}
use Rattle.model_trial.specs.MadeScript.{command_line, drawn_command}
use Rattle.film_maker.proofs.DrawnLines.{one_more, commands_drawn}
use Rattle.film_maker.proofs.script.put_commands.Goals as goal

pub loop-preserved : goal.loop-preserved
loop-preserved c =
    one_more drawn_command command_line c.loop.bytes.items c.put_command.new.bytes.items MADE_COMMANDS c.loop.counter c.loop.draws c.put_command.new.draws (omega arith)
    c.in_ok-put_command.ensures.written c.put_command.ensures.drawn
    ∙ c.loop.invariant

pub returns-clause-written : goal.returns-clause-written
returns-clause-written c =
    ap (λ (p : List ℕ × Lcg). p.0) (commands_drawn c.loop.bytes.items c.args.bytes.now.items c.loop.counter c.loop.draws c.args.draws.now c.loop-test.false c.loop.invariant)

pub returns-clause-drawn : goal.returns-clause-drawn
returns-clause-drawn c =
    ap (λ (p : List ℕ × Lcg). p.1) (commands_drawn c.loop.bytes.items c.args.bytes.now.items c.loop.counter c.loop.draws c.args.draws.now c.loop-test.false c.loop.invariant)
