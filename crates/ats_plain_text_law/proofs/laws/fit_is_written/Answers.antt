use Rattle.ats_plain_text_law.proofs.FitProofs.{fit_is_written}
use Rattle.ats_plain_text_law.proofs.laws.fit_is_written.Goals as goal

pub returns : goal.returns
returns c = fit_is_written
