use Rattle.ats_found_examples.proofs.EachTextProofs.{texts_are_of_their_stream}
use Rattle.ats_found_examples.proofs.laws.texts_are_of_their_stream.Goals as goal

pub returns : goal.returns
returns c = texts_are_of_their_stream
