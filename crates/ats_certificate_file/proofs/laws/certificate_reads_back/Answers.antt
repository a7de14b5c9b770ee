use Rattle.ats_certificate_file.proofs.ReadsBack.{certificate_reads_back}
use Rattle.ats_certificate_file.proofs.laws.certificate_reads_back.Goals as goal

pub returns : goal.returns
returns c = certificate_reads_back
