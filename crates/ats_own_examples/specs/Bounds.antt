use Rattle.std.specs.Prelude.{◌≡◌, [], ◌∷◌, codes, Some, None}
use Rattle.ats_tally.specs.Delays.{sums_for}
use Rattle.ats_tally.specs.declared.reason.Reason.TheVariants.{Residence, Deadline}
use Rattle.ats_explain.specs.Totals.{over_count}
use Rattle.ats_checker.specs.Refusal.{refusal_of}
use Rattle.ats_checker.specs.declared.refusal.Refusal.TheVariants.{Network}
use Rattle.ats_examples.specs.OwnFrames.{own, own_rows}
use Rattle.ats_tree_examples.specs.Bounds.{HasReason, IsBounded}
use Rattle.ats_tree_examples.specs.Networks.{behind_bridge, from_bridge}
use Rattle.ats_own_examples.specs.Networks.{behind_rows, bridge_rows, bridge_staying, bridge_within, ending}
use Rattle.ats_own_examples.specs.Networks.{ending_rows, local, local_rows, local_with, own_staying}

-- Bounds, certificates and reasons, where frames begin or end at bridges.

-- each port and class has its row, also where all frames of the class begin at the bridge that the port leaves, or end
-- at the one that it leads to; each stream counts there, and each flow
pub record CertificatesAreWorked : Type 0 where
  pub of_own : IsBounded own own_rows
  pub of_bridge : IsBounded from_bridge bridge_rows
  pub of_behind : IsBounded behind_bridge behind_rows
  pub of_local : IsBounded local local_rows
  pub own_sums : sums_for own own_rows ≡ 28265214 ∷ 13508000 ∷ 14508000 ∷ []
  pub bridge_sums : sums_for from_bridge bridge_rows ≡ 12836000 ∷ 26672000 ∷ 13836000 ∷ []
  pub behind_sums : sums_for behind_bridge behind_rows ≡ 12836000 ∷ 26672000 ∷ 26672000 ∷ []
  pub local_sums : sums_for local local_rows ≡ 33872270 ∷ 14716000 ∷ 4100000 ∷ 13716000 ∷ 5100000 ∷ []

-- a port's residence is asked wherever the port leads to a bridge: also of a class of which no frame goes on from
-- there, beside one of which frames do, and at the end of a branch. A residence that just fits is enough, and with 1 ns
-- less no certificate holds
pub record ResidenceIsAskedAtEnds : Type 0 where
  pub fits : IsBounded (ending 12336) ending_rows
  pub too_short : HasReason (ending 12335) (Residence 0 7 12336000) (Deadline (codes "h") None 14508000)
  pub refused : refusal_of (ending 12335) ending_rows ≡ Some (Network (Residence 0 7 12336000))
  pub over : over_count (ending 12335) ≡ 1
  pub beside_fits : IsBounded (own_staying 12461) own_rows
  pub beside_too_short : HasReason (own_staying 12460) (Residence 0 6 12460607) (Residence 0 7 12336000)
  pub beside_over : over_count (own_staying 12460) ≡ 1
  pub both_over : over_count (own_staying 12335) ≡ 2
  pub branch_fits : IsBounded (bridge_staying 11664) bridge_rows
  pub branch_too_short : HasReason (bridge_staying 11663) (Residence 8 6 11664000)
      (Deadline (codes "a") (Some (codes "s3")) 26672000)
  pub each_port_fits : IsBounded (local_with 15265 1000000000) local_rows
  pub each_port_too_short : HasReason (local_with 15264 1000000000) (Residence 0 6 15264135) (Residence 0 7 12544000)

-- a deadline is one of each listener, at a bridge too, and the sum for it goes from the bridge that sends
pub record DeadlinesAreOfEach : Type 0 where
  pub in_time : IsBounded (bridge_within 26672) bridge_rows
  pub late_for_second : HasReason (bridge_within 26671) (Deadline (codes "a") (Some (codes "s3")) 26672000)
      (Deadline (codes "a") None 12836000)
  pub late_for_two : HasReason (bridge_within 13835) (Deadline (codes "a") (Some (codes "s3")) 26672000)
      (Deadline (codes "a") (Some (codes "b3")) 13836000)
  pub late_for_all : HasReason (bridge_within 12835) (Deadline (codes "a") None 12836000)
      (Deadline (codes "a") (Some (codes "s3")) 26672000)
  pub at_bridge_in_time : IsBounded (local_with 1000000 14716) local_rows
  pub at_bridge_late : HasReason (local_with 1000000 14715) (Deadline (codes "g-0") None 14716000)
      (Deadline (codes "g-2") None 13716000)

pub record BoundsAreWorked : Type 0 where
  pub certificates : CertificatesAreWorked
  pub residence : ResidenceIsAskedAtEnds
  pub deadlines : DeadlinesAreOfEach
