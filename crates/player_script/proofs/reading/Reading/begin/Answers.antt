use Rattle.std.proofs.Common.{◌+◌, ◌≤◌, length, arith}
use Rattle.model_script.specs.declared.command.Line.TheVariants as lines
use Rattle.player_script.proofs.Limits.{no_limit}
use Rattle.player_script.proofs.reading.Reading.begin.Goals as goal

pub returns-clause-read : goal.returns-clause-read
returns-clause-read c =
    let self = c.args.self.now in
    let count = self.lanes.ok.0 in
    let few : length self.lanes.items + 1 ≤ 16 = omega arith in
    no_limit (length self.lanes.items) self.frames lines.Lane c.args.number few (omega arith)
