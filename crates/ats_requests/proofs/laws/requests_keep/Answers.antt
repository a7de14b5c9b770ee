use Rattle.ats_requests.proofs.Requests.{requests_keep}
use Rattle.ats_requests.proofs.laws.requests_keep.Goals as goal

pub returns : goal.returns
returns c = requests_keep
