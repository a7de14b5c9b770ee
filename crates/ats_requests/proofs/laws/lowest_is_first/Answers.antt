use Rattle.ats_requests.proofs.Classes.{lowest_is_first}
use Rattle.ats_requests.proofs.laws.lowest_is_first.Goals as goal

pub returns : goal.returns
returns c = lowest_is_first
