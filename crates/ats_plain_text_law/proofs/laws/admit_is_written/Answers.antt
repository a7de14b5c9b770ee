use Rattle.ats_plain_text_law.proofs.AdmitProofs.{admit_is_written}
use Rattle.ats_plain_text_law.proofs.laws.admit_is_written.Goals as goal

pub returns : goal.returns
returns c = admit_is_written
