use Rattle.ats_found_examples.proofs.HopProofs.{hop_is_first}
use Rattle.ats_found_examples.proofs.laws.hop_is_first.Goals as goal

pub returns : goal.returns
returns c = hop_is_first
