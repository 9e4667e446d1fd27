use Rattle.model_report.proofs.ReportLaws.{each_has_an_answer}
use Rattle.model_report.proofs.laws.each_has_an_answer.Goals as goal

pub returns : goal.returns
returns c = each_has_an_answer
