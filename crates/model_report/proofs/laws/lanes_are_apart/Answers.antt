use Rattle.model_report.proofs.ReportLaws.{lanes_are_apart}
use Rattle.model_report.proofs.laws.lanes_are_apart.Goals as goal

pub returns : goal.returns
returns c = lanes_are_apart
