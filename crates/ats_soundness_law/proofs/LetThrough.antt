-- What a node sends of the streams that begin elsewhere: what the groups of the node let through.
use Rattle.std.proofs.Common.{◌≡◌, ℕ, zero, suc, ◌+◌, ◌<◌, ◌≤◌, true, false, List, [], ◌∷◌, ◌++◌, length, map, sum_by}
use Rattle.std.proofs.Common.{get_or, Some, ap, ◌∙◌, subst, sym, inl, inr, arith, length-append}
use Rattle.std.specs.Prelude.{◌==◌}
use Rattle.std.proofs.lemmas.Bool.{cases_eq, eqb-true, eq-eqb}
use Rattle.std.proofs.lemmas.List.{get_or-append-add}
use Rattle.std.proofs.lemmas.List.Sums.{sum_by-append}
use Rattle.std.proofs.lemmas.List.Sorted.{sum_by-IsPermutation}
use Rattle.ats_num.specs.Wire.{bits_of}
use Rattle.ats_topology.specs.Port.{port_at}
use Rattle.ats_network.specs.Bridges.{MeetAtBridge}
use Rattle.ats_network.specs.Sender.{Sender}
use Rattle.ats_network.specs.Network.{DeclaredNetwork, IsNetwork}
use Rattle.ats_network.specs.Senders.{sender_at, IsSender, AllNeighbours}
use Rattle.ats_network.specs.Class as classes
use Rattle.ats_network.proofs.LeastWalkLemmas.{neighbours_at}
use Rattle.ats_bucket.specs.Conforming.{Frame}
use Rattle.ats_certificate.specs.PortSums.{uses}
use Rattle.ats_group.specs.Group.{Offer}
use Rattle.ats_route_law.proofs.Before.{before_on_route}
use Rattle.ats_streams.specs.Branches.{leads_of, leg_at, legs_of}
use Rattle.ats_streams.specs.Traffic.{IsRuled}
use Rattle.ats_streams.proofs.BranchLemmas.{route-at}
use Rattle.ats_streams.specs.declared.traffic.Declared.{Declared}
use Rattle.ats_group.specs.declared.verdict.Verdict.{Verdict}
use Rattle.ats_group_law.specs.Accepted.{accepted_of}
use Rattle.ats_group.specs.Judge.{Judge}
use Rattle.ats_group_law.specs.Regulator.{passed_by}
use Rattle.ats_group_law.proofs.AcceptedParts.{sum_by-accepted_of}
use Rattle.ats_port_law.proofs.Sums.{sum_by-none}
use Rattle.ats_port_law.specs.PortLaw.{frame_of}
use Rattle.ats_trace.specs.Journey.{Leg, Travel, IsJourney, IsReleased, IsWay, class_at}
use Rattle.ats_trace.specs.Projections.{Hop, Handed, hops_along, handed_along, journey_hops, journey_handed}
use Rattle.ats_trace.specs.Projections.{handed_by, hop_at, sent_by, transmission_of}
use Rattle.ats_trace.specs.Eligibility.{offer_of, IsJudged, residence_of_groups, scheduled_by}
use Rattle.ats_trace.specs.Talker.{talker_of, start_of}
use Rattle.ats_trace.specs.Ways.{listener_count, route_to, way_to}
use Rattle.ats_trace.specs.declared.journey.Release.{Release}
use Rattle.ats_trace.specs.HopRecord.{HopRecord}
use Rattle.ats_trace.specs.declared.journey.Ending.{Ending}
use Rattle.ats_soundness_law.proofs.Bits.{counted_on, counted-none, hop_weight, through_weight, handed_weight}
use Rattle.ats_soundness_law.proofs.Bits.{group_weight, sent_of, sent_weight, sum_by-map, weight_of}
use Rattle.ats_soundness_law.proofs.Known.{Case, CaseBy, case_of}
use Rattle.ats_soundness_law.proofs.Journeys.{IsAt, each_on_route, journey_route, leg_listener, listeners_many}
use Rattle.ats_soundness_law.proofs.Journeys.{route_apart, route_handed-le, route_starts, start_is}
use Rattle.ats_soundness_law.proofs.Lifts.{run_hops-le, run_travels-le}
use Rattle.ats_soundness_law.proofs.Offered.{Kept}
use Rattle.ats_soundness_law.proofs.Paths.{sender_is, neighbours_with, uses_own, port_before}
use Rattle.ats_soundness_law.proofs.Paths.{port_before-is, port_before-within}
use Rattle.ats_soundness_law.proofs.Routes.{OnRoute}
use Rattle.ats_soundness_law.proofs.Streams.{member_ruled, stream_exists, stream_class}
use Rattle.ats_soundness_law.proofs.Wider.{scheduled_to_committed}
use Rattle.ats_soundness_law.proofs.Weighed.{weighs_for_own, weighs_nothing, weighs_on_route}
use Rattle.ats_soundness_law.proofs.Weights.{IsPassedOn, first-le, later-le}

-- at a port that leaves another node than the first one of a route, a frame weighs no more than what the group before
-- let through
weight_behind : (network : DeclaredNetwork) (i port : ℕ) (weight : ℕ → Frame → ℕ) (g : Handed → ℕ) (n : ℕ) (r : Release)
    (s : Sender) (path : List ℕ) (hops : List HopRecord) (ending : Ending) → IsWay path hops ending
    → IsReleased r hops → (start_of network.topology.ports path ≡ (port_at network.topology.ports port).from → ⊥)
    → AllNeighbours (IsPassedOn (hop_weight i port weight) g n r s) path
    → sum_by (hop_weight i port weight) (hops_along n r s path hops) ≤ sum_by g (handed_along n r s path hops)
weight_behind network i port weight g n r s [] hops ending way released elsewhere passed = omega arith
weight_behind network i port weight g n r s (p ∷ path) [] ending way released elsewhere passed = omega arith
weight_behind network i port weight g n r s (p ∷ path) (hop ∷ hops) ending way released elsewhere passed =
    let f : Hop → ℕ = hop_weight i port weight in
    let here = first-le f 0 n r s p hop.verdict hop.sent released.1 (λ times.
    counted-none (p == port) _ (λ same.
    elsewhere (ap (λ (q : ℕ). (port_at network.topology.ports q).from) (eqb-true p port same)))) in
    let later = later-le f g n r s p path hop hops ending passed way in
    let all = sum_by-append f (hop_at p (transmission_of n r (class_at s p) hop)) (hops_along n r s path hops) in
    omega (arith, here, later, all)

-- the port before this one on the route of a stream's leg, and the stream's class there
abbrev pub group_port : DeclaredNetwork → ℕ → ℕ → ℕ → ℕ
group_port network port leg i = port_before port (route_to (sender_at network i) leg)

abbrev pub group_class : DeclaredNetwork → ℕ → ℕ → ℕ → ℕ
group_class network port leg i = class_at (sender_at network i) (group_port network port leg i)

-- where this leg has the port, a stream's frame weighs there no more than what the group before let through
route_weight : (network : DeclaredNetwork) (run : List Travel) (i port : ℕ) (weight : ℕ → Frame → ℕ) (leg hop : ℕ)
    → Case network run
    → (n : ℕ) (j : Travel) → IsJourney network j
    → (talker_of network j.release.sender ≡ (port_at network.topology.ports port).from → ⊥)
    → IsAt (sender_at network j.release.sender) port leg hop
    → sum_by (hop_weight i port weight) (journey_hops network n j) ≤ sum_by
    (handed_weight i (group_port network port leg i) (group_class network port leg i) weight)
    (journey_handed network n j)
route_weight network run i port weight leg hop c n j is elsewhere at =
    let r : Release = j.release in
    let s : Sender = sender_at network r.sender in
    let net : IsNetwork network = c.net in
    let keeps : IsSender network.topology s = sender_is network net r.sender is.sender in
    let f : Hop → ℕ = hop_weight i port weight in
    let g : Handed → ℕ = handed_weight i (group_port network port leg i) (group_class network port leg i) weight in
    let within : leg < listener_count s = leg_listener s port leg hop at in
    let route : List ℕ = route_to s leg in
    let way : Leg = way_to s j leg in
    let on : OnRoute s j leg = journey_route network j leg net is within in
    let behind : sum_by f (hops_along n r s route way.hops) ≤ sum_by g (handed_along n r s route way.hops) =
    weight_behind network i port weight g n r s route way.hops way.ending on.way on.released
    (λ starts. elsewhere (sym (route_starts network.topology s leg keeps within) ∙ starts))
    (neighbours_with (λ p. p < length network.topology.ports) (λ p q. q ≡ port → p ≡ port_before port route)
    (IsPassedOn f g n r s)
    (λ p q within only e since times earlier came arrival.
    counted_on (q == port) (r.sender == i) (p == group_port network port leg i)
    (class_at s p == group_class network port leg i)
    (record { at = e.0; bits = bits_of r.octets }) (weight n)
    (λ there own. (
    let same = eqb-true r.sender i own in
    let before : p ≡ group_port network port leg i =
    only (eqb-true q port there) ∙ ap (λ (k : ℕ). port_before port (route_to (sender_at network k) leg)) same in (
      eq-eqb p (group_port network port leg i) before,
      eq-eqb (class_at s p) (group_class network port leg i)
          (ap (λ (k : ℕ). class_at (sender_at network k) p) same ∙ ap (class_at (sender_at network i)) before),
    ))))
    route (each_on_route (λ p. p < length network.topology.ports) s leg keeps.ports within)
    (port_before-is port route (route_apart network.topology s leg keeps within))) in
    omega (
      arith,
      weighs_on_route network i port weight n j leg hop net is at,
      behind,
      route_handed-le g network n j leg on,
    )

journey_weight : (network : DeclaredNetwork) (run : List Travel) (i port : ℕ) (weight : ℕ → Frame → ℕ) (leg hop : ℕ)
    → IsAt (sender_at network i) port leg hop
    → (talker_of network i ≡ (port_at network.topology.ports port).from → ⊥) → Case network run
    → (n : ℕ) (j : Travel) → IsJourney network j
    → sum_by (hop_weight i port weight) (journey_hops network n j) ≤ sum_by
    (handed_weight i (group_port network port leg i) (group_class network port leg i) weight)
    (journey_handed network n j)
journey_weight network run i port weight leg hop at elsewhere c n j is =
    elim (cases_eq j.release.sender i) as
    (λ _. sum_by (hop_weight i port weight) (journey_hops network n j) ≤ sum_by
    (handed_weight i (group_port network port leg i) (group_class network port leg i) weight)
    (journey_handed network n j)) [
      | inl same ↦ route_weight network run i port weight leg hop c n j is
          (λ begins. elsewhere (ap (talker_of network) (sym same) ∙ begins))
          (subst (λ (k : ℕ). IsAt (sender_at network k) port leg hop) (sym same) at)
      | inr other ↦ omega (arith, weighs_for_own network i port weight n j other)
    ]

-- that group is behind the port before, on whichever route
comes_from : (network : DeclaredNetwork) (i port leg hop : ℕ) → IsSender network.topology (sender_at network i)
    → (talker_of network i ≡ (port_at network.topology.ports port).from → ⊥) → IsAt (sender_at network i) port leg hop
    → (classes.port_before (sender_at network i) port ≡ Some (group_port network port leg i))
    × ((port_at network.topology.ports port).from
    ≡ (port_at network.topology.ports (group_port network port leg i)).to)
comes_from network i port leg hop is elsewhere at =
    by (length lead + hop) within there
  where
    s : Sender
    s = sender_at network i

    lead : List ℕ
    lead = leg_at (leads_of s.ports s.branches) leg

    own : List ℕ
    own = leg_at (legs_of s.ports s.branches) leg

    listener : leg < listener_count s
    listener = leg_listener s port leg hop at

    many : leg ≤ length s.branches
    many = listeners_many s leg listener

    route_is : route_to s leg ≡ lead ++ own
    route_is = route-at s.ports s.branches leg [] many

    within : length lead + hop < length (route_to s leg)
    within = omega (arith, at.in_leg, ap (λ (l : List ℕ). length l) route_is, length-append lead own)

    there : get_or (route_to s leg) (length lead + hop) 0 ≡ port
    there = ap (λ (l : List ℕ). get_or l (length lead + hop) 0) route_is ∙ get_or-append-add lead own hop 0 ∙ at.is

    begins : get_or (route_to s leg) 0 0 ≡ port
        → talker_of network i ≡ (port_at network.topology.ports port).from
    begins first =
        sym (route_starts network.topology s leg is listener)
        ∙ start_is network.topology.ports (route_to s leg) (omega (arith, within))
        ∙ ap (λ (p : ℕ). (port_at network.topology.ports p).from) first

    by : (place : ℕ) → place < length (route_to s leg) → get_or (route_to s leg) place 0 ≡ port
        → (classes.port_before s port ≡ Some (group_port network port leg i))
        × ((port_at network.topology.ports port).from
        ≡ (port_at network.topology.ports (group_port network port leg i)).to)
    by zero in_route first = absurd (elsewhere (begins first))
    by (suc k) in_route here =
        let route : List ℕ = route_to s leg in
        let earlier : get_or route k 0 ≡ port_before port route =
        neighbours_at (λ a b. b ≡ port → a ≡ port_before port route) route k
        (port_before-is port route (route_apart network.topology s leg is listener)) in_route here in
        let meet : MeetAtBridge network.topology (get_or route k 0) (get_or route (suc k) 0) =
        neighbours_at (MeetAtBridge network.topology) route k (is.bridges leg [] listener) in_route in (
          ap (classes.port_before s) (sym here)
              ∙ before_on_route network.topology s leg k is many in_route
              ∙ ap (λ (p : ℕ). Some p) earlier,
          ap (λ (p : ℕ). (port_at network.topology.ports p).from) (sym here) ∙ meet.next
              ∙ ap (λ (p : ℕ). (port_at network.topology.ports p).to) earlier,
        )

-- so a stream's transmissions there weigh no more than what its group let through
pub passed_weight : (network : DeclaredNetwork) (run : List Travel) (i port : ℕ) (weight : ℕ → Frame → ℕ)
    → Case network run → (talker_of network i ≡ (port_at network.topology.ports port).from → ⊥) → (leg hop : ℕ)
    → IsAt (sender_at network i) port leg hop
    → sum_by (weight_of weight) (sent_of i (sent_by network run port)) ≤ sum_by (through_weight i weight)
    (handed_by network run (group_port network port leg i) (group_class network port leg i))
passed_weight network run i port weight c elsewhere leg hop at =
    let q : ℕ = group_port network port leg i in
    let class : ℕ = group_class network port leg i in
    let le = run_hops-le (IsJourney network) (hop_weight i port weight) (handed_weight i q class weight)
    network 0 run (journey_weight network run i port weight leg hop at elsewhere c) c.journeys in
    let sent = sent_weight network run i port weight in
    let group = group_weight network run i q class weight in
    omega (arith, le, sent, group)

-- the group before, of a stream that comes to a port
pub record Comes (network : DeclaredNetwork) (port leg i : ℕ) : Type 0 where
  pub within : group_port network port leg i < length network.topology.ports
  pub shaped : 1 ≤ group_class network port leg i
  pub ruled : IsRuled (scheduled_by network (group_port network port leg i) i)
  pub before : classes.port_before (sender_at network i) port ≡ Some (group_port network port leg i)
  pub next : (port_at network.topology.ports port).from
      ≡ (port_at network.topology.ports (group_port network port leg i)).to

pub comes : (network : DeclaredNetwork) (port i leg hop : ℕ) → IsNetwork network → i < length network.streams
    → (talker_of network i ≡ (port_at network.topology.ports port).from → ⊥)
    → IsAt (sender_at network i) port leg hop → Comes network port leg i
comes network port i leg hop net h elsewhere at =
    let s : Sender = sender_at network i in
    let keeps : IsSender network.topology s = sender_is network net i (stream_exists network i h) in
    let listener : leg < listener_count s = leg_listener s port leg hop at in
    let route : List ℕ = route_to s leg in
    let some : 1 ≤ length route = (keeps.routes leg [] listener).least in
    let q : ℕ = port_before port route in
    let shaped : 1 ≤ class_at s q = stream_class network net q i h
    (port_before-within (λ p. uses p s ≡ true) port route some
    (each_on_route (λ p. uses p s ≡ true) s leg (uses_own s) listener)) in
    let from_there = comes_from network i port leg hop keeps elsewhere at in
    record {
      within = port_before-within (λ p. p < length network.topology.ports) port route some
          (each_on_route (λ p. p < length network.topology.ports) s leg keeps.ports listener);
      shaped = shaped;
      ruled = member_ruled network net q i (stream_exists network i h) shaped;
      before = from_there.0;
      next = from_there.1;
    }

-- so its frames there are no more than what its group let through
pub group_kept : {judge : Judge} {rule : Declared → List Frame → Type 0} (network : DeclaredNetwork)
    (run : List Travel) (port : ℕ) → CaseBy judge rule network run → (i : ℕ) → i < length network.streams
    → (talker_of network i ≡ (port_at network.topology.ports port).from → ⊥) → (leg hop : ℕ)
    → IsAt (sender_at network i) port leg hop → Kept rule network run port i
group_kept {judge} {rule} network run port c i h elsewhere leg hop at =
    let s : Sender = sender_at network i in
    let keeps : IsSender network.topology s = sender_is network c.net i (stream_exists network i h) in
    let q : ℕ = group_port network port leg i in
    let before : Comes network port leg i = comes network port i leg hop c.net h elsewhere at in
    let j : IsJudged judge network q (handed_by network run q (class_at s q)) =
    c.legal.groups q (class_at s q) before.within before.shaped in
    let offers : List Offer = map offer_of j.arrivals in
    record {
      others = passed_by judge (scheduled_by network q) (residence_of_groups network q) offers i;
      keeps = scheduled_to_committed network port q i
          (passed_by judge (scheduled_by network q) (residence_of_groups network q) offers i) c.rules c.net keeps
          before.before
          (c.regulator.keeps (scheduled_by network q) (residence_of_groups network q) offers i before.ruled);
      no_more = λ weight. (
          let le = passed_weight network run i port (λ n. weight) (case_of c) elsewhere leg hop at in
          let moved = sum_by-IsPermutation (through_weight i (λ n. weight))
          (handed_by network run q (class_at s q)) j.arrivals j.same in
          let accepted = sum_by-accepted_of offer_of (λ (h : Handed). h.verdict) i j.arrivals weight in
          let judged = ap (λ (vs : List Verdict). sum_by weight (accepted_of i offers vs)) j.verdicts in
          let frames = sum_by-map frame_of weight (sent_of i (sent_by network run port)) in
          omega (arith, le, moved, accepted, judged, frames));
    }

-- a stream that does not have the port has no frames there
pub none_weight : (network : DeclaredNetwork) (run : List Travel) (i port : ℕ) (weight : ℕ → Frame → ℕ)
    → Case network run → uses port (sender_at network i) ≡ false
    → sum_by (weight_of weight) (sent_of i (sent_by network run port)) ≤ 0
none_weight network run i port weight c unused =
    let each = run_travels-le (IsJourney network) (hop_weight i port weight) (λ (j : Travel). 0) network 0 run
    (λ n j is. elim (cases_eq j.release.sender i) as
    (λ _. sum_by (hop_weight i port weight) (journey_hops network n j) ≤ 0) [
      | inl same ↦ weighs_nothing network i port weight n j c.net is
          (ap (λ (k : ℕ). uses port (sender_at network k)) same ∙ unused)
      | inr other ↦ weighs_for_own network i port weight n j other
    ])
    c.journeys in
    let none = sum_by-none (λ (j : Travel). 0) run (λ k d h. omega arith) in
    omega (arith, each, none, sent_weight network run i port weight)
