use Rattle.ats_examples.proofs.OwnFrameProofs.{ends_may_babble, own_are_contained, own_babbler_counts}
use Rattle.ats_examples.proofs.OwnFrameProofs.{own_delay_counts, own_served}
use Rattle.ats_examples.proofs.soundness_laws.own_frames_count.Goals as goal

pub returns : goal.returns
returns c = record {
  met = own_served;
  babbler = own_babbler_counts;
  delay = own_delay_counts;
  ends = ends_may_babble;
  contained = own_are_contained;
}
