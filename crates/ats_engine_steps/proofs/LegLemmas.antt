-- The ports of a leg among those of its sender, and the leg that has a port.
use Rattle.std.proofs.Common.{◌≡◌, ◌∙◌, ℕ, zero, suc, ◌+◌, ◌-◌, ◌<◌, ◌≤◌, List, [], drop, length, get_or, map}
use Rattle.std.proofs.Common.{inl, inr, refl, ap, subst, sym, arith, length-append, length-drop, length-take, All}
use Rattle.std.proofs.lemmas.Bool.{cases_lt}
use Rattle.std.proofs.lemmas.List.{get_or-drop, get_or-take, get_or_default}
use Rattle.std.proofs.lemmas.List.Elements.{All-append, All-map}
use Rattle.std.proofs.lemmas.List.Sums.{get_or-le-sum_by}
use Rattle.std.specs.Prelude.{Contains}
use Rattle.ats_streams.proofs.BranchLemmas.{Spans, lead_of_trunk, legs-length, route-at, routes-length, spans_between}
use Rattle.ats_streams.proofs.BranchLemmas.{spans_end, trunk_within}
use Rattle.ats_streams.specs.Branches.{AreBranches, first_from, leads_of, leg_at, legs_of, no_branch, routes_of}
use Rattle.ats_streams.specs.Flow.{DeclaredFlow, IsFlow}
use Rattle.ats_streams.specs.Path.{IsPath}
use Rattle.ats_streams.specs.Stream.{DeclaredStream}
use Rattle.ats_streams.specs.declared.branch.Branch.{Branch}
use Rattle.ats_network.proofs.SenderLemmas.{sender_keeps}
use Rattle.ats_network.specs.Network.{DeclaredNetwork, IsNetwork, ports_together, senders_of}
use Rattle.ats_network.specs.Sender.{Sender, flow_sender, stream_sender}
use Rattle.ats_network.specs.Senders.{IsSender, no_sender, sender_at}
use Rattle.ats_schedulers.proofs.LegPlaces.{IsLeg, leg_is}
use Rattle.ats_trace.specs.Journey.{legs_at}
use Rattle.ats_trace.specs.declared.journey.Release.{Release}

streams_few : (streams : List DeclaredStream) → ports_together streams ≤ 65536
    → All (λ (s : Sender). length s.ports ≤ 65536) (map stream_sender streams)
streams_few streams few = All-map (λ (s : Sender). length s.ports ≤ 65536) stream_sender streams
    (λ k d h. omega (arith, few, get_or-le-sum_by (λ (s : DeclaredStream). length s.ports) streams k d h))

flows_few : (flows : List DeclaredFlow) → All IsFlow flows
    → All (λ (s : Sender). length s.ports ≤ 65536) (map flow_sender flows)
flows_few flows keep = All-map (λ (s : Sender). length s.ports ≤ 65536) flow_sender flows
    (λ k d h. (let path : IsPath (get_or flows k d).path = (keep k d h).path in omega (arith, path.most)))

-- a sender has few ports
pub few_ports_of : (network : DeclaredNetwork) (sender : ℕ) → IsNetwork network → sender < length (senders_of network)
    → length (sender_at network sender).ports ≤ 65536
few_ports_of network sender is within =
    All-append (λ (s : Sender). length s.ports ≤ 65536) (map stream_sender network.streams)
    (map flow_sender network.flows) (streams_few network.streams is.few_ports) (flows_few network.flows is.flows)
    sender no_sender within

-- and at least one
some_port_of : (network : DeclaredNetwork) (sender : ℕ) → IsNetwork network → sender < length (senders_of network)
    → 1 ≤ length (sender_at network sender).ports
some_port_of network sender is within =
    let s : Sender = sender_at network sender in
    let keeps : IsSender network.topology s = sender_keeps network sender is within in
    let path : IsPath (get_or (routes_of s.ports s.branches) 0 []) =
    keeps.routes 0 [] (omega (arith, routes-length s.ports s.branches)) in
    omega (
      arith,
      path.least,
      ap (λ (l : List ℕ). length l) (route-at s.ports s.branches 0 [] (omega arith)),
      length-append (leg_at (leads_of s.ports s.branches) 0) (leg_at (legs_of s.ports s.branches) 0),
      ap (λ (l : List ℕ). length l) (lead_of_trunk s.ports s.branches),
      trunk_within s.ports s.branches,
    )

-- the ports of a leg stand together among those of its sender
pub sender_leg : (network : DeclaredNetwork) (sender leg : ℕ) → IsNetwork network
    → sender < length (senders_of network) → leg ≤ length (sender_at network sender).branches
    → IsLeg (sender_at network sender).ports (leg_at (legs_at network sender) leg)
    (first_from 0 (sender_at network sender).branches leg)
sender_leg network sender leg is within there =
    let s : Sender = sender_at network sender in
    let keeps : IsSender network.topology s = sender_keeps network sender is within in
    leg_is s.ports s.branches leg keeps.branches (some_port_of network sender is within) there

-- where a leg other than the trunk begins
pub first_is : (at : ℕ) (branches : List Branch) (leg : ℕ) → 1 ≤ leg
    → first_from at branches leg ≡ (get_or branches (leg - 1) no_branch).first
first_is at branches zero some = absurd (omega (arith, some))
first_is at branches (suc n) some =
    let before : suc n - 1 ≡ n = omega arith in
    ap (λ (k : ℕ). (get_or branches k no_branch).first) (sym before)

-- the ports of a leg that stand from one place up to another have the one at a place between
span_has : (ports : List ℕ) (branches : List Branch) (leg from to place port : ℕ) → Spans ports branches leg from to
    → from ≤ place → place < to → get_or ports place 0 ≡ port → Contains (leg_at (legs_of ports branches) leg) port
span_has ports branches leg from to place port span behind before is =
    let whole : from + (place - from) ≡ place = omega (arith, behind) in
    subst (λ (l : List ℕ). Contains l port) span.leg_is (
      place - from,
      omega (arith, behind, before, span.within, length-take (to - from) (drop from ports), length-drop from ports),
      get_or-take (to - from) (drop from ports) (place - from) port (omega (arith, behind, before))
          ∙ get_or-drop from ports (place - from) port
          ∙ ap (λ (k : ℕ). get_or ports k port) whole
          ∙ get_or_default ports place port 0 (omega (arith, before, span.within))
          ∙ is,
    )

-- the last leg that begins no later than the place of a port has the port
pub leg_has : (ports : List ℕ) (branches : List Branch) (leg place port : ℕ) → AreBranches ports branches
    → leg ≤ length branches → first_from 0 branches leg ≤ place
    → (leg < length branches → place < (get_or branches leg no_branch).first) → place < length ports
    → get_or ports place 0 ≡ port → Contains (leg_at (legs_of ports branches) leg) port
leg_has ports branches leg place port are there from below within is = elim (cases_lt leg (length branches)) [
  | inl earlier ↦
      span_has ports branches leg (first_from 0 branches leg) (get_or branches leg no_branch).first place port
      (spans_between ports branches leg are earlier) from (below earlier) is
  | inr last ↦
      (let same : leg ≡ length branches = omega (arith, there, last) in
      span_has ports branches leg (first_from 0 branches leg) (length ports) place port
      (spans_end ports branches leg (first_from 0 branches leg) are same refl) from within is)
]

-- a sender has a leg more than branches
pub legs_more : (network : DeclaredNetwork) (release told : Release) (legs : ℕ) → release ≡ told
    → legs ≡ length (legs_at network release.sender) → legs ≡ 1 + length (sender_at network told.sender).branches
legs_more network release told legs is many =
    let s : Sender = sender_at network told.sender in
    let here : legs ≡ length (legs_at network told.sender) =
    many ∙ ap (λ (r : Release). length (legs_at network r.sender)) is in
    omega (arith, here, legs-length 0 s.ports s.branches)
