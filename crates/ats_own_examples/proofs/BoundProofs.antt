use Rattle.std.proofs.Common.{◌≡◌, ℕ, true, [], Some, None, refl, ap}
use Rattle.std.specs.Prelude.{codes, not, ◌==◌}
use Rattle.ats_network.specs.Network.{DeclaredNetwork, IsNetwork}
use Rattle.ats_tally.specs.declared.reason.Reason.{Reason}
use Rattle.ats_tally.specs.declared.reason.Reason.TheVariants.{Overloaded, Residence, Deadline}
use Rattle.ats_bound.specs.Reason.{reason_of}
use Rattle.ats_examples.specs.Networks.{line_links, nodes_with}
use Rattle.ats_examples.specs.OwnFrames.{own, own_rows}
use Rattle.ats_examples.proofs.NetworkTest.{apart_by, long_network_by, network_passes}
use Rattle.ats_examples.proofs.OwnFrameProofs.{own_certified}
use Rattle.ats_tree_examples.specs.Bounds.{HasReason}
use Rattle.ats_tree_examples.specs.Networks.{behind_bridge, from_bridge, tree_links, tree_nodes}
use Rattle.ats_tree_examples.proofs.BoundProofs.{bounded, reason_by}
use Rattle.ats_tree_examples.proofs.TreeProofs.{from_bridge_is}
use Rattle.ats_tree_bound_examples.specs.Explained.{staying_nodes}
use Rattle.ats_own_examples.specs.Bounds.{BoundsAreWorked, CertificatesAreWorked, DeadlinesAreOfEach}
use Rattle.ats_own_examples.specs.Bounds.{ResidenceIsAskedAtEnds}
use Rattle.ats_own_examples.specs.Networks.{behind_rows, bridge_rows, bridge_staying, bridge_within, ending}
use Rattle.ats_own_examples.specs.Networks.{ending_rows, local, local_rows, local_with, own_staying}

-- Bounds by computation, and what the laws say of reasons.

-- the number in a reason
abbrev number_in : Reason → ℕ
number_in (Overloaded port class load) = load
number_in (Residence port class need) = need
number_in (Deadline stream listener sum) = sum

-- two reasons with other numbers are not the same
has_reason : (network : DeclaredNetwork) (reason other : Reason) → IsNetwork network
    → reason_of network ≡ Some reason → not (number_in reason == number_in other) ≡ true
    → HasReason network reason other
has_reason network reason other rules given differ = reason_by network reason other rules given
    (λ same. apart_by (number_in reason) (number_in other) differ (ap number_in same))

behind_is : IsNetwork behind_bridge
behind_is = long_network_by (tree_nodes 1000000) tree_links behind_bridge.streams [] refl refl

pub local_is : IsNetwork local
local_is = long_network_by (nodes_with 1000000) line_links local.streams local.flows refl refl

certificates : CertificatesAreWorked
certificates = record {
  of_own = bounded own own_rows own_certified.rules refl refl refl;
  of_bridge = bounded from_bridge bridge_rows from_bridge_is refl refl refl;
  of_behind = bounded behind_bridge behind_rows behind_is refl refl refl;
  of_local = bounded local local_rows local_is refl refl refl;
  own_sums = refl;
  bridge_sums = refl;
  behind_sums = refl;
  local_sums = refl;
}

fits_is : IsNetwork (ending 12336)
fits_is = long_network_by (nodes_with 12336) line_links (ending 12336).streams (ending 12336).flows refl refl

short_is : IsNetwork (ending 12335)
short_is = long_network_by (nodes_with 12335) line_links (ending 12335).streams (ending 12335).flows refl refl

beside_fits_is : IsNetwork (own_staying 12461)
beside_fits_is = long_network_by (nodes_with 12461) line_links own.streams [] refl refl

beside_short_is : IsNetwork (own_staying 12460)
beside_short_is = long_network_by (nodes_with 12460) line_links own.streams [] refl refl

branch_fits_is : IsNetwork (bridge_staying 11664)
branch_fits_is = long_network_by (staying_nodes 1000000 11664) tree_links from_bridge.streams [] refl refl

branch_short_is : IsNetwork (bridge_staying 11663)
branch_short_is = long_network_by (staying_nodes 1000000 11663) tree_links from_bridge.streams [] refl refl

each_fits_is : IsNetwork (local_with 15265 1000000000)
each_fits_is = long_network_by (nodes_with 15265) line_links local.streams local.flows refl refl

each_short_is : IsNetwork (local_with 15264 1000000000)
each_short_is = long_network_by (nodes_with 15264) line_links local.streams local.flows refl refl

residence : ResidenceIsAskedAtEnds
residence = record {
  fits = bounded (ending 12336) ending_rows fits_is refl refl refl;
  too_short = has_reason (ending 12335) (Residence 0 7 12336000) (Deadline (codes "h") None 14508000) short_is refl
      refl;
  refused = refl;
  over = refl;
  beside_fits = bounded (own_staying 12461) own_rows beside_fits_is refl refl refl;
  beside_too_short = has_reason (own_staying 12460) (Residence 0 6 12460607) (Residence 0 7 12336000) beside_short_is
      refl refl;
  beside_over = refl;
  both_over = refl;
  branch_fits = bounded (bridge_staying 11664) bridge_rows branch_fits_is refl refl refl;
  branch_too_short = has_reason (bridge_staying 11663) (Residence 8 6 11664000)
      (Deadline (codes "a") (Some (codes "s3")) 26672000) branch_short_is refl refl;
  each_port_fits = bounded (local_with 15265 1000000000) local_rows each_fits_is refl refl refl;
  each_port_too_short = has_reason (local_with 15264 1000000000) (Residence 0 6 15264135) (Residence 0 7 12544000)
      each_short_is refl refl;
}

within_is : (deadline_ns : ℕ) → network_passes (bridge_within deadline_ns) ≡ true
    → IsNetwork (bridge_within deadline_ns)
within_is deadline_ns =
    long_network_by (tree_nodes 1000000) tree_links (bridge_within deadline_ns).streams [] refl

local_within_is : (deadline_ns : ℕ) → network_passes (local_with 1000000 deadline_ns) ≡ true
    → IsNetwork (local_with 1000000 deadline_ns)
local_within_is deadline_ns =
    long_network_by (nodes_with 1000000) line_links (local_with 1000000 deadline_ns).streams local.flows refl

deadlines : DeadlinesAreOfEach
deadlines = record {
  in_time = bounded (bridge_within 26672) bridge_rows (within_is 26672 refl) refl refl refl;
  late_for_second = has_reason (bridge_within 26671) (Deadline (codes "a") (Some (codes "s3")) 26672000)
      (Deadline (codes "a") None 12836000) (within_is 26671 refl) refl refl;
  late_for_two = has_reason (bridge_within 13835) (Deadline (codes "a") (Some (codes "s3")) 26672000)
      (Deadline (codes "a") (Some (codes "b3")) 13836000) (within_is 13835 refl) refl refl;
  late_for_all = has_reason (bridge_within 12835) (Deadline (codes "a") None 12836000)
      (Deadline (codes "a") (Some (codes "s3")) 26672000) (within_is 12835 refl) refl refl;
  at_bridge_in_time = bounded (local_with 1000000 14716) local_rows (local_within_is 14716 refl) refl refl refl;
  at_bridge_late = has_reason (local_with 1000000 14715) (Deadline (codes "g-0") None 14716000)
      (Deadline (codes "g-2") None 13716000) (local_within_is 14715 refl) refl refl;
}

pub bounds_are_worked : BoundsAreWorked
bounds_are_worked = record { certificates = certificates; residence = residence; deadlines = deadlines }
