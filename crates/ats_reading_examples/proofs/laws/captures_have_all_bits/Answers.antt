use Rattle.ats_reading_examples.proofs.ByteProofs.{captures_have_all_bits}
use Rattle.ats_reading_examples.proofs.laws.captures_have_all_bits.Goals as goal

pub returns : goal.returns
returns c = captures_have_all_bits
