use Rattle.std.proofs.Common.{◌≡◌, ◌++◌, length, take, drop, refl, ap, ◌∙◌, arith}
use Rattle.model_report.specs.Reports.{heard_of}
use Rattle.script_playing.proofs.LaneSteps.{lane_step, lane_end, given_back}
use Rattle.script_playing.proofs.lane.lane_text.Goals as goal

pub loop-command-preserved : goal.loop-command-preserved
loop-command-preserved c =
    let now = c.write_answer.new.cursors in
    let before = c.loop-command.cursors in
    let count : before.len ≡ length now = omega (arith, c.deref_mut.ensures.len, c.write_answer.auto.cursors) in
    let back : take before.len (now ++ drop (length now) before.items) ≡ now = given_back before.len now (drop (length now) before.items) count in
    let written = rw c.deref_mut.ensures.value at c.in_ok-write_answer.ensures.text in
    let left = rw c.deref_mut.ensures.value at c.in_ok-write_answer.ensures.cursors in
    rw back (record {
      count = omega (arith, c.write_answer.auto.cursors, ap length c.deref_mut.ensures.value, c.loop-command.invariant.count);
      positions = c.in_ok-write_answer.ensures.positions;
      text = lane_step (heard_of c.args.reel.now.constants c.args.reel.now.film.links) c.args.commands.now c.loop-command.command-index _ _ _ _ _ _ _ c.loop-command-test.true refl written left c.loop-command.invariant.text;
    })

pub returns : goal.returns
returns c = c.of.ensures ∙ lane_end (heard_of c.args.reel.now.constants c.args.reel.now.film.links) c.args.commands.now c.loop-command.command-index _ c.loop-command.text.items _ c.loop-command-test.false c.loop-command.invariant.text
