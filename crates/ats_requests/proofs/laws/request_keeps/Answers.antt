use Rattle.ats_requests.proofs.Requests.{request_keeps}
use Rattle.ats_requests.proofs.laws.request_keeps.Goals as goal

pub returns : goal.returns
returns c = request_keeps
