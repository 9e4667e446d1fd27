use Rattle.std.proofs.Common.{◌∙◌, ap, arith}
use Rattle.model_script.specs.Scripts.{script_of}
use Rattle.model_trial.specs.declared.numbers.TheConstants.{MADE_LANES}
use Rattle.model_trial.specs.MadeScript.{drawn_lane}
use Rattle.model_trial.proofs.DrawnScripts.{made_scripts_are_accepted}
use Rattle.film_maker.proofs.DrawnLines.{one_more, lane_text, script_drawn}
use Rattle.film_maker.proofs.script.make_script.Goals as goal

pub loop-preserved : goal.loop-preserved
loop-preserved c =
    one_more drawn_lane lane_text c.loop.bytes.items c.put_lane.new.bytes.items MADE_LANES c.loop.counter c.loop.draws c.put_lane.new.draws (omega arith)
    c.in_ok-put_lane.ensures.written c.in_ok-put_lane.ensures.drawn
    ∙ c.loop.invariant

pub returns-clause-made : goal.returns-clause-made
returns-clause-made c = script_drawn c.args.number c.loop.bytes.items c.loop.counter c.loop.draws c.loop-test.false c.loop.invariant

pub returns-clause-accepted : goal.returns-clause-accepted
returns-clause-accepted c =
    ap script_of (script_drawn c.args.number c.loop.bytes.items c.loop.counter c.loop.draws c.loop-test.false c.loop.invariant)
    ∙ made_scripts_are_accepted c.args.number
