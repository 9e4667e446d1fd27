use Rattle.std.proofs.Common.{◌-◌, List, slice_set, ap, ◌∙◌, arith}
use Rattle.std.specs.Vec.{vec_len}
use Rattle.model_script.specs.declared.command.Command.{Command}
use Rattle.player_script.proofs.Limits.{set-last, are-given}
use Rattle.player_script.proofs.reading.Reading.give.Goals as goal

pub returns-in_ok-push-clause-lanes : goal.returns-in_ok-push-clause-lanes
returns-in_ok-push-clause-lanes c =
    let lanes = c.args.self.now.lanes in
    let count = lanes.ok.0 in
    ap (λ (lane : List Command). slice_set lanes.items (vec_len lanes - 1) lane) c.in_ok-push.ensures.ok
    ∙ set-last c.args.command lanes.items c.in-Some.lane.now (vec_len lanes - 1) (omega arith) c.in-Some.ensures.value

pub returns-in_ok-push-clause-still : goal.returns-in_ok-push-clause-still
returns-in_ok-push-clause-still c =
    rw (returns-in_ok-push-clause-lanes c) (are-given c.args.command c.args.self.now.lanes.items c.requires.right c.requires.lanes)
