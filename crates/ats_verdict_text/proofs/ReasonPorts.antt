-- The ports that reasons name.
use Rattle.std.proofs.Common.{◌≡◌, Some, get_or, sym, subst}
use Rattle.ats_topology.specs.Topology.{DeclaredTopology}
use Rattle.ats_streams.specs.Stream.{DeclaredStream}
use Rattle.ats_network.specs.Network.{DeclaredNetwork, IsNetwork}
use Rattle.ats_network.specs.Listeners.{Listener, listeners_of}
use Rattle.ats_network.specs.Residence.{residence_after}
use Rattle.ats_certificate.specs.Certificate.{bound_on}
use Rattle.ats_certificate.specs.Used.{places_of}
use Rattle.ats_certificate.specs.declared.row.Row.{Row}
use Rattle.ats_tally.specs.Reason.{overstay, row_need, late, late_for, ReasonInside}
use Rattle.ats_tally.specs.declared.reason.Reason.{Reason}
use Rattle.ats_tally.proofs.Firsts.{first_where, or_where}
use Rattle.ats_tally.proofs.Places.{is_place, places_used}
use Rattle.ats_tally.proofs.Reasons.{overload_inside, overstay_inside, late_inside}
use Rattle.ats_bound.specs.Least.{least_certificate}
use Rattle.ats_bound.specs.Reason.{load_at, overload, reason_of}
use Rattle.ats_bound.proofs.LeastHolds.{ports_exist}
use Rattle.ats_verdict_text.specs.Laws.{EachReasonIsInside}

pub each_reason_is_inside : EachReasonIsInside
each_reason_is_inside network found is some =
    or_where (ReasonInside network.topology) _ _ found
    (first_where (overload network) (ReasonInside network.topology) (places_of network) found
    (λ k d h b. (
    let at = get_or (places_of network) k d in
    overload_inside network.topology at.0 at.1 (load_at network at) b
    (is_place network at.0 at.1 is (places_used network k d h)).within)))
    (or_where (ReasonInside network.topology) _ _ found
    (first_where (overstay network) (ReasonInside network.topology) (least_certificate network) found
    (λ k d h b. (
    let row : Row = get_or (least_certificate network) k d in
    overstay_inside network.topology row (row_need network row) (residence_after network.topology row.port) b
    (ports_exist network is k d h))))
    (first_where (late network.topology (least_certificate network)) (ReasonInside network.topology) network.streams
    found
    (λ k d h b. (
    let stream : DeclaredStream = get_or network.streams k d in
    first_where (late_for (least_certificate network) stream) (ReasonInside network.topology)
    (listeners_of network.topology stream) b
    (λ j e g r. (
    let listener : Listener = get_or (listeners_of network.topology stream) j e in
    late_inside network.topology stream listener.name
    (bound_on (least_certificate network) stream listener.route) r))))))
    some

-- as a topology that is the network's
pub reason_inside : (network : DeclaredNetwork) (topology : DeclaredTopology) (reason : Reason) → IsNetwork network
    → topology ≡ network.topology → reason_of network ≡ Some reason → ReasonInside topology reason
reason_inside network topology reason is same why =
    subst (λ (t : DeclaredTopology). ReasonInside t reason) (sym same) (each_reason_is_inside network reason is why)
