use Rattle.model_report.proofs.ReportLaws.{crosses_open_ones}
use Rattle.model_report.proofs.laws.crosses_open_ones.Goals as goal

pub returns : goal.returns
returns c = crosses_open_ones
