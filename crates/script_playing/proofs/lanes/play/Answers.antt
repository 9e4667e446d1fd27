use Rattle.std.proofs.Common.{◌∙◌, arith}
use Rattle.script_playing.proofs.LaneSteps.{report_step, report_end}
use Rattle.script_playing.proofs.lanes.play.Goals as goal

pub loop-lane-preserved : goal.loop-lane-preserved
loop-lane-preserved g c =
    report_step c.args.reel.now.constants c.args.reel.now.film.links c.args.script.now c.loop-lane.lane c.commands.result.now c.in_ok-lane_text.field-0 c.loop-lane.texts.items c.push.new.self.items c.commands.ensures.commands c.in_ok-lane_text.ensures c.in_ok-push.ensures.items c.loop-lane.invariant

pub returns : goal.returns
returns g c = c.of.ensures ∙ report_end c.args.reel.now.constants c.args.reel.now.film.links c.args.script.now c.loop-lane.lane c.loop-lane.texts.items (omega (arith, c.loop-lane-test.false, c.lanes-lane-end.ensures.count)) c.loop-lane.invariant
