use Rattle.ats_plain_text_law.proofs.ShowProofs.{show_is_written}
use Rattle.ats_plain_text_law.proofs.laws.show_is_written.Goals as goal

pub returns : goal.returns
returns c = show_is_written
