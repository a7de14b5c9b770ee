use Rattle.ats_text_law.proofs.Reports.{report_tells_all}
use Rattle.ats_text_law.proofs.laws.report_tells_all.Goals as goal

pub returns : goal.returns
returns c = report_tells_all
