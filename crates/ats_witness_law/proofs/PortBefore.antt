-- Travels, by the port before.
use Rattle.std.proofs.Common.{◌≡◌, ℕ, zero, suc, ◌+◌, ◌<◌, ◌≤◌, List, [], ◌++◌, get_or, length, length-append}
use Rattle.std.proofs.Common.{take, sum_by, Option, sym, ap, subst, ◌∙◌, arith, add-one}
use Rattle.std.specs.List.{before_first, list_any}
use Rattle.std.specs.Option.{option_map_or}
use Rattle.std.proofs.lemmas.Bool.{cond-true}
use Rattle.std.proofs.lemmas.List.{get_or-append-add}
use Rattle.std.proofs.lemmas.List.Sums.{sum_by_more}
use Rattle.ats_streams.specs.Branches.{routes_of}
use Rattle.ats_streams.specs.declared.branch.Branch.{Branch}
use Rattle.ats_streams.proofs.BranchLemmas.{legs-length, route-at}
use Rattle.ats_topology.specs.Topology.{DeclaredTopology}
use Rattle.ats_network.specs.Class.{port_before}
use Rattle.ats_network.specs.Rates.{in_front_on, ports_to}
use Rattle.ats_network.specs.Sender.{Sender}
use Rattle.ats_network.specs.Senders.{IsSender}
use Rattle.ats_trace.specs.Ways.{route_to}
use Rattle.ats_route_law.specs.Laws.{ports_of_leg}
use Rattle.ats_route_law.proofs.Before.{before_on_route, lead_on}
use Rattle.ats_route_law.proofs.InFront.{comes_by, is_port, none_before}
use Rattle.ats_soundness_law.proofs.Journeys.{StandsAt, stands_at}
use Rattle.ats_witness.specs.Burst.{time_over, travel_to}
use Rattle.ats_witness_law.specs.Laws.{OneListenerComesByItsPath, TravelGoesOverThePortBefore}

-- the travel to such a port
by_place : (topology : DeclaredTopology) (s : Sender) (f : ℕ → ℕ) (n h : ℕ) → IsSender topology s
    → n ≤ length s.branches → h < length (route_to s n)
    → sum_by f (ports_to s (get_or (route_to s n) h 0))
    ≡ option_map_or (λ before. sum_by f (ports_to s before) + f before)
    (port_before s (get_or (route_to s n) h 0)) 0
by_place topology s f n zero is in_n in_h =
    ap (sum_by f) (comes_by topology s n 0 is in_n in_h)
    ∙ sym (ap (λ (o : Option ℕ). option_map_or (λ before. sum_by f (ports_to s before) + f before) o 0)
    (none_before topology s n is in_n))
by_place topology s f n (suc h) is in_n in_h =
    ap (sum_by f) (comes_by topology s n (suc h) is in_n in_h)
    ∙ ap (λ (k : ℕ). sum_by f (take k (route_to s n))) (sym (add-one h))
    ∙ sum_by_more f (route_to s n) h 0 (omega (arith, in_h))
    ∙ ap (λ (l : List ℕ). sum_by f l + f (get_or (route_to s n) h 0))
    (sym (comes_by topology s n h is in_n (omega (arith, in_h))))
    ∙ sym (ap (λ (o : Option ℕ). option_map_or (λ before. sum_by f (ports_to s before) + f before) o 0)
    (before_on_route topology s n h is in_n in_h))

pub travel_goes_over_the_port_before : TravelGoesOverThePortBefore
travel_goes_over_the_port_before network s port is used =
    subst (λ (p : ℕ). travel_to network p s
    ≡ option_map_or (λ before. travel_to network before s + time_over network s.max_octets before) (port_before s p) 0)
    there (by_place network.topology s (time_over network s.max_octets) at.leg place is in_legs within)
  where
    at : StandsAt s port
    at = stands_at s port is.branches used

    in_legs : at.leg ≤ length s.branches
    in_legs = omega (arith, at.at.in_legs, legs-length 0 s.ports s.branches)

    place : ℕ
    place = length (lead_on s at.leg) + at.hop

    route_is : route_to s at.leg ≡ lead_on s at.leg ++ ports_of_leg s at.leg
    route_is = route-at s.ports s.branches at.leg [] in_legs

    within : place < length (route_to s at.leg)
    within = omega (
      arith,
      at.at.in_leg,
      ap (λ (l : List ℕ). length l) route_is,
      length-append (lead_on s at.leg) (ports_of_leg s at.leg),
    )

    there : get_or (route_to s at.leg) place 0 ≡ port
    there = ap (λ (l : List ℕ). get_or l place 0) route_is
        ∙ get_or-append-add (lead_on s at.leg) (ports_of_leg s at.leg) at.hop 0 ∙ at.at.is

-- a sender with one listener has one route
pub one_listener_comes_by_its_path : OneListenerComesByItsPath
one_listener_comes_by_its_path s port alone used =
    ap (λ (branches : List Branch). in_front_on port (routes_of s.ports branches)) alone
    ∙ cond-true (list_any (is_port port) s.ports) (before_first (is_port port) s.ports) [] used
