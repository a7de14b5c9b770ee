use Rattle.ats_meaning_examples.proofs.NetworkTextsTold.{network_texts_are_told}
use Rattle.ats_meaning_examples.proofs.laws.network_texts_are_told.Goals as goal

pub returns : goal.returns
returns c = network_texts_are_told
