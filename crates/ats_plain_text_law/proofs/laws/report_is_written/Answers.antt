use Rattle.ats_plain_text_law.proofs.ReportProofs.{report_is_written}
use Rattle.ats_plain_text_law.proofs.laws.report_is_written.Goals as goal

pub returns : goal.returns
returns c = report_is_written
