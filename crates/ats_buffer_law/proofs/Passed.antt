use Rattle.std.proofs.Common.{◌≡◌, ℕ, ◌+◌, ◌-◌, ◌<◌, ◌≤◌, Bool, true, false, cond, List, [], ◌∷◌, length}
use Rattle.std.proofs.Common.{get_or, sum_by, refl, sym, ap, ◌∙◌, subst, inl, inr, arith}
use Rattle.std.specs.Prelude.{◌==◌, ◌&&◌, nat_le, nat_lt}
use Rattle.std.proofs.lemmas.Bool.{cases_Bool, cases_eq, and_parts, eqb-true, eq-eqb, leb-true, ltb-true, cond-true}
use Rattle.std.proofs.lemmas.Bool.{cond-false}
use Rattle.std.proofs.lemmas.List.Sums.{sum_by-append}
use Rattle.ats_num.specs.Wire.{bits_of}
use Rattle.ats_topology.specs.Port.{port_at}
use Rattle.ats_network.specs.Sender.{Sender}
use Rattle.ats_network.specs.Network.{DeclaredNetwork, IsNetwork}
use Rattle.ats_network.specs.Senders.{sender_at, IsSender, AllNeighbours}
use Rattle.ats_group.specs.declared.verdict.Verdict.{Verdict}
use Rattle.ats_group.specs.declared.verdict.Verdict.TheVariants.{Eligible, Late, Size}
use Rattle.ats_group_law.proofs.WindowBits.{bits_in, bits_in-inside}
use Rattle.ats_port_law.proofs.Sums.{sum_by-none}
use Rattle.ats_streams.specs.Branches.{legs_of}
use Rattle.ats_trace.specs.Journey.{Leg, Travel, IsJourney, IsWay, class_at, legs_in}
use Rattle.ats_trace.specs.Talker.{start_of, talker_of}
use Rattle.ats_trace.specs.Ways.{listener_count, route_to, way_to}
use Rattle.ats_trace.specs.Projections.{Hop, Crossing, Handed, transmission_of, crossing_at, crossings_along}
use Rattle.ats_trace.specs.Projections.{handed_along, journey_crossings, journey_handed, crossings_from, handed_from}
use Rattle.ats_trace.specs.declared.journey.Release.{Release}
use Rattle.ats_trace.specs.HopRecord.{HopRecord}
use Rattle.ats_trace.specs.declared.journey.Ending.{Ending}
use Rattle.ats_soundness_law.specs.Sound.{IsEligibleBy}
use Rattle.ats_soundness_law.proofs.Journeys.{IsAt, each_hop, each_on_route, each_was_sent, journey_route}
use Rattle.ats_soundness_law.proofs.Journeys.{journey_sender, leg_listener, route_apart, route_handed-le, route_starts}
use Rattle.ats_soundness_law.proofs.Known.{Case}
use Rattle.ats_soundness_law.proofs.Routes.{OnRoute}
use Rattle.ats_soundness_law.proofs.Paths.{neighbours_with, port_before}
use Rattle.ats_soundness_law.proofs.Paths.{port_before-is}
use Rattle.ats_buffer_law.proofs.Crossed.{IsCrossedOn, later_crossed-le, none_here, run_crossings-le}
use Rattle.ats_buffer_law.proofs.OnRoutes.{weighs_on_route}

-- the bits of a sender's crossing of a port, where it came by a time and may still be there, at most so long after its
-- eligibility
abbrev pub soon_weight : ℕ → ℕ → ℕ → ℕ → Crossing → ℕ
soon_weight i port time stay c =
    cond (c.port == port) (cond (c.sent.sender == i)
    (cond (nat_le c.came time && nat_lt time (c.sent.eligible + stay)) c.sent.bits 0) 0) 0

-- those of a frame that was handed on so, by its verdict
abbrev pub passed_bits : ℕ → ℕ → ℕ → ℕ → Verdict → ℕ
passed_bits time stay octets arrival (Eligible e) =
    cond (nat_le arrival time && nat_lt time (e.0 + stay)) (bits_of octets) 0
passed_bits time stay octets arrival (Late e) = 0
passed_bits time stay octets arrival Size = 0

-- where it crossed this port and is of this sender
abbrev pub passed_weight : ℕ → ℕ → ℕ → ℕ → Handed → ℕ
passed_weight i port time stay h =
    cond (h.crossing.port == port) (cond (h.crossing.sent.sender == i)
    (passed_bits time stay h.crossing.octets h.crossing.arrival h.verdict) 0) 0

-- what is counted where two tests pass is counted where another and the second pass, if the other passes then
counted_before : (there own before : Bool) (n : ℕ) → (there ≡ true → own ≡ true → before ≡ true)
    → cond there (cond own n 0) 0 ≤ cond before (cond own n 0) 0
counted_before true true true n h = omega arith
counted_before true true false n h = absurd (cc (h refl refl))
counted_before true false before n h = omega arith
counted_before false own before n h = omega arith

counted_neither : (there own : Bool) (n : ℕ) → (own ≡ true → ⊥) → cond there (cond own n 0) 0 ≤ 0
counted_neither true true n h = absurd (h refl)
counted_neither true false n h = omega arith
counted_neither false own n h = omega arith

counted_none : (there : Bool) (n : ℕ) → (there ≡ true → ⊥) → cond there n 0 ≤ 0
counted_none true n h = absurd (h refl)
counted_none false n h = omega arith

-- the port before this one on the route of a sender's leg
abbrev pub group_port : DeclaredNetwork → ℕ → ℕ → ℕ → ℕ
group_port network port leg i = port_before port (route_to (sender_at network i) leg)

-- a frame's crossings of a port that leaves another node than the first one of a route weigh no more than what the port
-- before handed on
soon_behind : (network : DeclaredNetwork) (i port leg time stay n : ℕ) (r : Release) (s : Sender)
    (path : List ℕ) (hops : List HopRecord) (ending : Ending) → IsWay path hops ending
    → (start_of network.topology.ports path ≡ (port_at network.topology.ports port).from → ⊥)
    → AllNeighbours (IsCrossedOn (soon_weight i port time stay)
    (passed_weight i (group_port network port leg i) time stay) n r s) path
    → sum_by (soon_weight i port time stay) (crossings_along n r s path hops ending)
    ≤ sum_by (passed_weight i (group_port network port leg i) time stay) (handed_along n r s path hops)
soon_behind network i port leg time stay n r s [] hops ending way elsewhere on = omega arith
soon_behind network i port leg time stay n r s (p ∷ path) [] ending way elsewhere on = omega arith
soon_behind network i port leg time stay n r s (p ∷ path) (hop ∷ hops) ending way elsewhere on =
    let f : Crossing → ℕ = soon_weight i port time stay in
    let g : Handed → ℕ = passed_weight i (group_port network port leg i) time stay in
    let here = none_here f r.octets hop.arrival.0 p (transmission_of n r (class_at s p) hop) hops ending
    (λ x next. counted_none (p == port) _ (λ same.
    elsewhere (ap (λ (q : ℕ). (port_at network.topology.ports q).from) (eqb-true p port same)))) in
    let later = later_crossed-le f g n r s p path hop hops ending on way in
    let all = sum_by-append f
    (crossing_at r.octets hop.arrival.0 p (transmission_of n r (class_at s p) hop) hops ending)
    (crossings_along n r s path hops ending) in
    omega (arith, here, later, all)

-- of the frames of the sender whose leg has the port
own_soon : (network : DeclaredNetwork) (i port leg hop time stay : ℕ) → IsNetwork network → (n : ℕ) (j : Travel)
    → IsJourney network j
    → (talker_of network j.release.sender ≡ (port_at network.topology.ports port).from → ⊥)
    → IsAt (sender_at network j.release.sender) port leg hop
    → sum_by (soon_weight i port time stay) (journey_crossings network n j)
    ≤ sum_by (passed_weight i (group_port network port leg i) time stay) (journey_handed network n j)
own_soon network i port leg hop time stay net n j is elsewhere at =
    let r : Release = j.release in
    let s : Sender = sender_at network r.sender in
    let keeps : IsSender network.topology s = journey_sender network j net is in
    let f : Crossing → ℕ = soon_weight i port time stay in
    let g : Handed → ℕ = passed_weight i (group_port network port leg i) time stay in
    let within : leg < listener_count s = leg_listener s port leg hop at in
    let route : List ℕ = route_to s leg in
    let way : Leg = way_to s j leg in
    let on : OnRoute s j leg = journey_route network j leg net is within in
    let along : sum_by f (crossings_along n r s route way.hops way.ending)
    ≤ sum_by g (handed_along n r s route way.hops) =
    soon_behind network i port leg time stay n r s route way.hops way.ending on.way
    (λ starts. elsewhere (sym (route_starts network.topology s leg keeps within) ∙ starts))
    (neighbours_with (λ p. p < length network.topology.ports) (λ p q. q ≡ port → p ≡ port_before port route)
    (IsCrossedOn f g n r s)
    (λ p q within only e since times earlier came arrival next.
    counted_before (q == port) (r.sender == i) (p == group_port network port leg i)
    (cond (nat_le arrival time && nat_lt time (e.0 + stay)) (bits_of r.octets) 0)
    (λ there own. eq-eqb p (group_port network port leg i)
    (only (eqb-true q port there)
    ∙ ap (λ (k : ℕ). port_before port (route_to (sender_at network k) leg)) (eqb-true r.sender i own))))
    route (each_on_route (λ p. p < length network.topology.ports) s leg keeps.ports within)
    (port_before-is port route (route_apart network.topology s leg keeps within))) in
    omega (
      arith,
      weighs_on_route f network port n j leg hop
          (λ c other. counted_none (c.port == port) _ (λ same. other (eqb-true c.port port same))) net is at,
      along,
      route_handed-le g network n j leg on,
    )

-- frames of others are not counted
others_none : (i port time stay : ℕ) (c : Crossing) → (c.sent.sender ≡ i → ⊥) → soon_weight i port time stay c ≤ 0
others_none i port time stay c other =
    counted_neither (c.port == port) (c.sent.sender == i) _ (λ same. other (eqb-true c.sent.sender i same))

journey_soon : (network : DeclaredNetwork) (i port leg hop time stay : ℕ) → IsNetwork network
    → (talker_of network i ≡ (port_at network.topology.ports port).from → ⊥)
    → IsAt (sender_at network i) port leg hop → (n : ℕ) (j : Travel) → IsJourney network j
    → sum_by (soon_weight i port time stay) (journey_crossings network n j)
    ≤ sum_by (passed_weight i (group_port network port leg i) time stay) (journey_handed network n j)
journey_soon network i port leg hop time stay net elsewhere at n j is =
    let r : Release = j.release in
    let s : Sender = sender_at network r.sender in
    let f : Crossing → ℕ = soon_weight i port time stay in
    elim (cases_eq r.sender i) as (λ _. sum_by f (journey_crossings network n j)
    ≤ sum_by (passed_weight i (group_port network port leg i) time stay) (journey_handed network n j)) [
      | inl same ↦ own_soon network i port leg hop time stay net n j is
          (λ begins. elsewhere (ap (talker_of network) (sym same) ∙ begins))
          (subst (λ (k : ℕ). IsAt (sender_at network k) port leg hop) (sym same) at)
      | inr other ↦ (
          let its = each_was_sent (λ (g : Hop). g.sent.sender ≡ r.sender) n r s (legs_of s.ports s.branches) (legs_in j)
          (each_hop (λ (g : Hop). g.sent.sender ≡ r.sender) n r s (legs_in j) (λ k d h e times. refl)) in
          let none = sum_by-none f (journey_crossings network n j)
          (λ k d h. others_none i port time stay (get_or (journey_crossings network n j) k d)
          (λ same. other (sym (its k d h) ∙ same))) in
          omega (arith, none))
    ]

pub run_soon : (network : DeclaredNetwork) (run : List Travel) (i port leg hop time stay : ℕ)
    → Case network run
    → (talker_of network i ≡ (port_at network.topology.ports port).from → ⊥)
    → IsAt (sender_at network i) port leg hop
    → sum_by (soon_weight i port time stay) (crossings_from network 0 run)
    ≤ sum_by (passed_weight i (group_port network port leg i) time stay) (handed_from network 0 run)
run_soon network run i port leg hop time stay c elsewhere at =
    run_crossings-le (IsJourney network) (soon_weight i port time stay)
    (passed_weight i (group_port network port leg i) time stay) network 0 run
    (journey_soon network i port leg hop time stay c.net elsewhere at) c.journeys

-- what is counted of a frame that was handed on, with what is known of it, is counted in the window
pub passed-le : (time stay bound soonest octets arrival bits since : ℕ) (verdict : Verdict) → bits ≡ bits_of octets
    → IsEligibleBy (since + bound) (λ e. Unit {0}) verdict → since + soonest ≤ arrival
    → passed_bits time stay octets arrival verdict
    ≤ bits_in (time - (stay + bound)) (time - soonest) (record { at = since; bits = bits })
passed-le time stay bound soonest octets arrival bits since (Eligible e) same eligible after =
    elim (cases_Bool (nat_le arrival time && nat_lt time (e.0 + stay)))
    as (λ _. passed_bits time stay octets arrival (Eligible e)
    ≤ bits_in (time - (stay + bound)) (time - soonest) (record { at = since; bits = bits })) [
      | inl yes_there ↦ (
          let parts = and_parts (nat_le arrival time) (nat_lt time (e.0 + stay)) yes_there in
          let came : arrival ≤ time = leb-true arrival time parts.0 in
          let soon : time < e.0 + stay = ltb-true time (e.0 + stay) parts.1 in
          let counted = cond-true (nat_le arrival time && nat_lt time (e.0 + stay)) (bits_of octets) 0 yes_there in
          let inside = bits_in-inside (time - (stay + bound)) (time - soonest) (record { at = since; bits = bits })
          (omega (arith, soon, eligible.0)) (omega (arith, came, after)) in
          omega (arith, counted, inside, same))
      | inr gone ↦ (
          let counted = cond-false (nat_le arrival time && nat_lt time (e.0 + stay)) (bits_of octets) 0 gone in
          omega (arith, counted))
    ]
passed-le time stay bound soonest octets arrival bits since (Late e) same eligible after = absurd eligible
passed-le time stay bound soonest octets arrival bits since Size same eligible after = absurd eligible
