use Rattle.ats_plain_text_law.proofs.CheckProofs.{check_is_written}
use Rattle.ats_plain_text_law.proofs.laws.check_is_written.Goals as goal

pub returns : goal.returns
returns c = check_is_written
