use Rattle.ats_requests.proofs.Classes.{no_class_has_reasons}
use Rattle.ats_requests.proofs.laws.no_class_has_reasons.Goals as goal

pub returns : goal.returns
returns c = no_class_has_reasons
