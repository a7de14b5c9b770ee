use Rattle.ats_requests.proofs.Entry.{entry_is_push}
use Rattle.ats_requests.proofs.laws.entry_is_push.Goals as goal

pub returns : goal.returns
returns c = entry_is_push
