use Rattle.ats_limit_examples.proofs.ChainProofs.{long_requests_are_limited}
use Rattle.ats_limit_examples.proofs.laws.long_requests_are_limited.Goals as goal

pub returns : goal.returns
returns c = long_requests_are_limited
