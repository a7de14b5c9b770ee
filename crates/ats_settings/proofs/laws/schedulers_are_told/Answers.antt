use Rattle.ats_settings.proofs.Told as lemmas
use Rattle.ats_settings.proofs.laws.schedulers_are_told.Goals as goal

pub returns : goal.returns
returns c = lemmas.schedulers_are_told
