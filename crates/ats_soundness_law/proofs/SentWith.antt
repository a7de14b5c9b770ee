-- What a node sends a stream with: as its talker declares, or by its scheduler there.
use Rattle.std.proofs.Common.{◌≡◌, ◌≢◌, ℕ, zero, suc, ◌+◌, ◌<◌, ◌≤◌, true, List, [], ◌∷◌, ◌++◌, length, length-append}
use Rattle.std.proofs.Common.{get_or, eqb, Option, Some, None, refl, sym, ap, ◌∙◌, arith}
use Rattle.std.specs.List.{list_any}
use Rattle.std.specs.Option.{option_map_or}
use Rattle.std.proofs.lemmas.Bool.{false≢true}
use Rattle.std.proofs.lemmas.List.{get_or-append-add}
use Rattle.ats_clock.specs.Rates.{committed, output_of}
use Rattle.ats_clock.specs.declared.committed.Committed.{Committed}
use Rattle.ats_streams.specs.Branches.{leads_of, leg_at, legs_of}
use Rattle.ats_streams.proofs.BranchLemmas.{route-at}
use Rattle.ats_topology.specs.Port.{port_at}
use Rattle.ats_topology.specs.Topology.{DeclaredTopology}
use Rattle.ats_network.specs.Bridges.{MeetAtBridge}
use Rattle.ats_network.specs.Class.{port_before}
use Rattle.ats_network.specs.Path.{IsValidPath}
use Rattle.ats_network.specs.Rates.{committed_at, scheduled_at}
use Rattle.ats_network.specs.Sender.{Sender}
use Rattle.ats_network.specs.Senders.{IsSender}
use Rattle.ats_network.proofs.LeastWalkLemmas.{neighbours_at}
use Rattle.ats_certificate.specs.PortSums.{uses}
use Rattle.ats_route_law.proofs.Before.{before_on_route}
use Rattle.ats_route_law.proofs.InFront.{none_before}
use Rattle.ats_route_law.proofs.Steps.{committed_first, committed_next}
use Rattle.ats_trace.specs.Talker.{start_of}
use Rattle.ats_trace.specs.Ways.{listener_count, route_to}
use Rattle.ats_soundness_law.proofs.Journeys.{StandsAt, leg_listener, listeners_many, route_starts, stands_at, start_is}
use Rattle.ats_soundness_law.proofs.OwnFrames.{later_elsewhere}
use Rattle.ats_soundness_law.proofs.ToldTimes.{node_clock}

-- at its first port what is declared, and at each other one what its scheduler behind the port before has
abbrev pub sent_with : DeclaredTopology → Sender → ℕ → Committed
sent_with topology s port =
    option_map_or (λ before. scheduled_at topology before s) (port_before s port) (committed s.rate s.burst_bits)

-- a port at a place of the route to a listener
pub record IsReached (s : Sender) (port : ℕ) : Type 0 where
  pub leg : ℕ
  pub place : ℕ
  pub listener : leg < listener_count s
  pub within : place < length (route_to s leg)
  pub is : get_or (route_to s leg) place 0 ≡ port

pub reached : (topology : DeclaredTopology) (s : Sender) (port : ℕ) → IsSender topology s → uses port s ≡ true
    → IsReached s port
reached topology s port is used =
    let at : StandsAt s port = stands_at s port is.branches used in
    let listener : at.leg < listener_count s = leg_listener s port at.leg at.hop at.at in
    let lead : List ℕ = leg_at (leads_of s.ports s.branches) at.leg in
    let own : List ℕ = leg_at (legs_of s.ports s.branches) at.leg in
    let route_is : route_to s at.leg ≡ lead ++ own =
    route-at s.ports s.branches at.leg [] (listeners_many s at.leg listener) in
    record {
      leg = at.leg;
      place = length lead + at.hop;
      listener = listener;
      within = omega (arith, at.at.in_leg, ap (λ (l : List ℕ). length l) route_is, length-append lead own);
      is = ap (λ (l : List ℕ). get_or l (length lead + at.hop) 0) route_is ∙ get_or-append-add lead own at.hop 0
          ∙ at.at.is;
    }

-- each route begins at the node that the sender's first port leaves
begins_at_first : (topology : DeclaredTopology) (s : Sender) (leg : ℕ) → IsSender topology s → leg < listener_count s
    → 0 < length s.ports → 0 < length (route_to s leg)
    → (port_at topology.ports (get_or (route_to s leg) 0 0)).from ≡ (port_at topology.ports (get_or s.ports 0 0)).from
begins_at_first topology s leg is listener some within =
    sym (start_is topology.ports (route_to s leg) within)
    ∙ route_starts topology s leg is listener
    ∙ start_is topology.ports s.ports some

has_some : (ports : List ℕ) (port : ℕ) (s : Sender) → s.ports ≡ ports → uses port s ≡ true → 0 < length ports
has_some [] port s none used =
    absurd (false≢true (sym (ap (list_any (λ (q : ℕ). eqb q port)) none) ∙ used))
has_some (p ∷ ports) port s same used = omega arith

-- what conforms to that at the times that the node's clock told conforms in true time to what the port sees
pub output_is : (topology : DeclaredTopology) (s : Sender) (port : ℕ) → IsSender topology s → uses port s ≡ true
    → output_of (node_clock topology (port_at topology.ports port).from) (sent_with topology s port)
    ≡ committed_at topology port s
output_is topology s port is used = by at.place at.within at.is
  where
    at : IsReached s port
    at = reached topology s port is used

    many : at.leg ≤ length s.branches
    many = listeners_many s at.leg at.listener

    declared : Committed
    declared = committed s.rate s.burst_bits

    by : (place : ℕ) → place < length (route_to s at.leg) → get_or (route_to s at.leg) place 0 ≡ port
        → output_of (node_clock topology (port_at topology.ports port).from) (sent_with topology s port)
        ≡ committed_at topology port s
    by zero within here =
        let none : port_before s port ≡ None =
        ap (port_before s) (sym here) ∙ none_before topology s at.leg is many in
        let from : (port_at topology.ports port).from ≡ (port_at topology.ports (get_or s.ports 0 0)).from =
        ap (λ (p : ℕ). (port_at topology.ports p).from) (sym here)
        ∙ begins_at_first topology s at.leg is at.listener (has_some s.ports port s refl used) within in
        ap (λ (o : Option ℕ). output_of (node_clock topology (port_at topology.ports port).from)
        (option_map_or (λ before. scheduled_at topology before s) o declared)) none
        ∙ ap (λ (node : ℕ). output_of (node_clock topology node) declared) from
        ∙ sym (committed_first topology s port is none)
    by (suc k) within here =
        let route : List ℕ = route_to s at.leg in
        let q : ℕ = get_or route k 0 in
        let has : port_before s port ≡ Some q =
        ap (port_before s) (sym here) ∙ before_on_route topology s at.leg k is many within in
        let meet : MeetAtBridge topology q (get_or route (suc k) 0) =
        neighbours_at (MeetAtBridge topology) route k (is.bridges at.leg [] at.listener) within in
        let from : (port_at topology.ports port).from ≡ (port_at topology.ports q).to =
        ap (λ (p : ℕ). (port_at topology.ports p).from) (sym here) ∙ meet.next in
        ap (λ (o : Option ℕ). output_of (node_clock topology (port_at topology.ports port).from)
        (option_map_or (λ before. scheduled_at topology before s) o declared)) has
        ∙ ap (λ (node : ℕ). output_of (node_clock topology node) (scheduled_at topology q s)) from
        ∙ sym (committed_next topology s port q is has)

-- a port that leaves the talker has none before it
first_alone : (topology : DeclaredTopology) (path : List ℕ) (k : ℕ) → IsValidPath topology path
    → suc k < length path
    → (port_at topology.ports (get_or path 0 0)).from ≢ (port_at topology.ports (get_or path (suc k) 0)).from
first_alone topology [] k valid within = absurd (omega arith)
first_alone topology (p ∷ path) k valid within = later_elsewhere topology p path valid k 0 (omega arith)

pub own_with : (topology : DeclaredTopology) (s : Sender) (port : ℕ) → IsSender topology s → uses port s ≡ true
    → start_of topology.ports s.ports ≡ (port_at topology.ports port).from
    → sent_with topology s port ≡ committed s.rate s.burst_bits
own_with topology s port is used begins = by at.place at.within at.is
  where
    at : IsReached s port
    at = reached topology s port is used

    by : (place : ℕ) → place < length (route_to s at.leg) → get_or (route_to s at.leg) place 0 ≡ port
        → sent_with topology s port ≡ committed s.rate s.burst_bits
    by zero within here =
        ap (λ (o : Option ℕ). option_map_or (λ before. scheduled_at topology before s) o
        (committed s.rate s.burst_bits))
        (ap (port_before s) (sym here) ∙ none_before topology s at.leg is (listeners_many s at.leg at.listener))
    by (suc k) within here =
        let some : 0 < length (route_to s at.leg) = omega (arith, within) in
        absurd (first_alone topology (route_to s at.leg) k (is.valid at.leg [] at.listener) within
        (sym (start_is topology.ports (route_to s at.leg) some) ∙ route_starts topology s at.leg is at.listener
        ∙ begins ∙ ap (λ (p : ℕ). (port_at topology.ports p).from) (sym here)))
