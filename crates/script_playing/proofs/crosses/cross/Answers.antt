use Rattle.std.proofs.Common.{None}
use Rattle.script_playing.proofs.LaneSteps.{put_back}
use Rattle.script_playing.proofs.crosses.cross.Goals as goal

pub returns-clause-others : goal.returns-clause-others
returns-clause-others c = put_back c.args.cursors.now c.args.new c.take.new.self _ None c.requires.new
