use Rattle.model_report.proofs.ReportLaws.{crosses_itself}
use Rattle.model_report.proofs.laws.crosses_itself.Goals as goal

pub returns : goal.returns
returns c = crosses_itself
