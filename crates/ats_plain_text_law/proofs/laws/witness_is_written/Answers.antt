use Rattle.ats_plain_text_law.proofs.WitnessProofs.{witness_is_written}
use Rattle.ats_plain_text_law.proofs.laws.witness_is_written.Goals as goal

pub returns : goal.returns
returns c = witness_is_written
