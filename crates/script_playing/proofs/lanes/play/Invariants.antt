use Rattle.std.proofs.Common.{◌≡◌, take}
use Rattle.model_report.specs.Reports.{report_of}
use Rattle.script_playing.proofs.lanes.play.Given as goal

abbrev pub invariant-loop-lane : goal.invariant-loop-lane
invariant-loop-lane g l = l.texts.items ≡ take l.lane (report_of l.reel.constants l.reel.film.links l.script)
