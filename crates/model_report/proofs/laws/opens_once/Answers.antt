use Rattle.model_report.proofs.ReportLaws.{opens_once}
use Rattle.model_report.proofs.laws.opens_once.Goals as goal

pub returns : goal.returns
returns c = opens_once
