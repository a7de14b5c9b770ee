use Rattle.ats_sender_examples.proofs.EachProofs.{each_is_measured}
use Rattle.ats_sender_examples.proofs.laws.each_is_measured.Goals as goal

pub returns : goal.returns
returns c = each_is_measured
