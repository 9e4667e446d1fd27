use Rattle.model_report.proofs.CursorHalves.{halves_serve_cursors}
use Rattle.model_report.proofs.laws.halves_serve_cursors.Goals as goal

pub returns : goal.returns
returns c = halves_serve_cursors
