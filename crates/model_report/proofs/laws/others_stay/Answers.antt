use Rattle.model_report.proofs.ReportLaws.{others_stay}
use Rattle.model_report.proofs.laws.others_stay.Goals as goal

pub returns : goal.returns
returns c = others_stay
