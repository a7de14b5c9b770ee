use Rattle.ats_plain_file_law.proofs.ReportProofs.{reports_are_told}
use Rattle.ats_plain_file_law.proofs.laws.reports_are_told.Goals as goal

pub returns : goal.returns
returns c = reports_are_told
