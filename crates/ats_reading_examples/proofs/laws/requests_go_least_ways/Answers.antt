use Rattle.ats_reading_examples.proofs.PathProofs.{requests_go_least_ways}
use Rattle.ats_reading_examples.proofs.laws.requests_go_least_ways.Goals as goal

pub returns : goal.returns
returns c = requests_go_least_ways
