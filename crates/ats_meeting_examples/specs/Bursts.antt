use Rattle.std.specs.Prelude.{[], ◌∷◌}
use Rattle.ats_witness.specs.Burst.{IsBurstFor}
use Rattle.ats_text_examples.specs.Runs.{release}
use Rattle.ats_meeting_examples.specs.Networks.{two_flows}

-- Bursts at ports that two flows have. A frame of the stream, as one of the first flow, travels for 13836000 ps to the
-- second port, and one of 400 octets of the second flow for 4860000 ps.

-- each of the flows has a frame in it, a longest one of its own, which is released for itself. Refuses a burst with one
-- frame of best effort
pub record EachFlowIsInTheBurst : Type 0 where
  pub at_station : IsBurstFor two_flows 0 0 (release 0 1 1522 ∷ release 0 2 400 ∷ release 1 0 1522 ∷ [])
  pub at_bridge : IsBurstFor two_flows 0 2 (release 0 1 1522 ∷ release 1 0 1522 ∷ release 8976000 2 400 ∷ [])
