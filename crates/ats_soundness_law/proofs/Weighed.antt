-- What a frame weighs at a port: it is sent there once, at the one leg of its sender that has the port.
use Rattle.std.proofs.Common.{◌≡◌, ◌≢◌, ℕ, ◌<◌, ◌≤◌, false, List, [], ◌∷◌, get_or, All, sum_by}
use Rattle.std.proofs.Common.{sym, ap, ◌∙◌, subst, inl, inr, arith}
use Rattle.std.specs.Prelude.{◌==◌}
use Rattle.std.specs.List.{AllPairs, concat, list_any}
use Rattle.std.proofs.lemmas.Bool.{cases_Bool, eq-eqb, eqb-true, or_parts, true≢false}
use Rattle.std.proofs.lemmas.List.Elements.{All-nil, All-cons}
use Rattle.ats_bucket.specs.Conforming.{Frame}
use Rattle.ats_certificate.specs.PortSums.{uses}
use Rattle.ats_network.specs.Network.{DeclaredNetwork, IsNetwork}
use Rattle.ats_network.specs.Sender.{Sender}
use Rattle.ats_network.specs.Senders.{sender_at, IsSender}
use Rattle.ats_port_law.proofs.Sums.{sum_by-none}
use Rattle.ats_streams.specs.Branches.{legs_of}
use Rattle.ats_trace.specs.Journey.{Leg, Travel, IsJourney, legs_in}
use Rattle.ats_trace.specs.Projections.{Hop, hops_along, journey_hops}
use Rattle.ats_trace.specs.Ways.{listener_count, route_to, way_to}
use Rattle.ats_trace.specs.declared.journey.Release.{Release}
use Rattle.ats_trace.proofs.Legs.{concat-legs_of}
use Rattle.ats_soundness_law.proofs.Along.{all_hops}
use Rattle.ats_soundness_law.proofs.Bits.{hop_weight, counted-neither, counted-none}
use Rattle.ats_soundness_law.proofs.Journeys.{IsAt, StandsAt, each_hop, journey_route, journey_sender, leg_listener}
use Rattle.ats_soundness_law.proofs.Journeys.{stands_at}
use Rattle.ats_soundness_law.proofs.Over.{hops_are, hops_on, over_none, over-le}
use Rattle.ats_soundness_law.proofs.Parts.{part-le}
use Rattle.ats_soundness_law.proofs.Routes.{own_leg, own_ports}

-- along ports of which none is this one nothing is counted
weightless : (i port : ℕ) (weight : ℕ → Frame → ℕ) (n : ℕ) (r : Release) (s : Sender) (path : List ℕ) (leg : Leg)
    → All (λ (p : ℕ). port ≢ p) path → sum_by (hop_weight i port weight) (hops_on n r s path leg) ≤ 0
weightless i port weight n r s path leg away =
    let f : Hop → ℕ = hop_weight i port weight in
    let each = all_hops (λ (g : Hop). f g ≤ 0) n r s path leg.hops
    (λ k d h e times. counted-none (get_or path k d == port) _
    (λ same. away k d h (sym (eqb-true (get_or path k d) port same)))) in
    omega (arith, sum_by-none f (hops_along n r s path leg.hops) each)

-- a frame weighs at a port no more than along the route of the leg that has the port
pub weighs_on_route : (network : DeclaredNetwork) (i port : ℕ) (weight : ℕ → Frame → ℕ) (n : ℕ) (j : Travel)
    (leg hop : ℕ) → IsNetwork network → IsJourney network j → IsAt (sender_at network j.release.sender) port leg hop
    → sum_by (hop_weight i port weight) (journey_hops network n j)
    ≤ sum_by (hop_weight i port weight) (hops_along n j.release (sender_at network j.release.sender)
    (route_to (sender_at network j.release.sender) leg) (way_to (sender_at network j.release.sender) j leg).hops)
weighs_on_route network i port weight n j leg hop net is at =
    let r : Release = j.release in
    let s : Sender = sender_at network r.sender in
    let f : Hop → ℕ = hop_weight i port weight in
    let paths : List (List ℕ) = legs_of s.ports s.branches in
    let keeps : IsSender network.topology s = journey_sender network j net is in
    let apart : AllPairs (λ p q. p ≢ q) (concat paths) =
    subst (AllPairs (λ p q. p ≢ q)) (sym (concat-legs_of s.ports s.branches keeps.branches)) keeps.apart in
    let Weightless : ℕ → Type 0 = λ (p : ℕ). (path : List ℕ) (own : Leg) → All (λ (q : ℕ). p ≢ q) path
    → sum_by f (hops_on n r s path own) ≤ 0 in
    omega (
      arith,
      ap (λ (hs : List Hop). sum_by f hs) (hops_are n r s paths (legs_in j)),
      over-le f (hops_on n r s) paths (legs_in j) leg hop
          (subst Weightless (sym at.is) (weightless i port weight n r s)) apart at.in_legs at.in_leg,
      part-le f (hops_on n r s (own_ports s leg) (own_leg j leg))
          (hops_along n r s (route_to s leg) (way_to s j leg).hops)
          ((journey_route network j leg net is (leg_listener s port leg hop at)).own_hops n),
    )

-- at a port that its sender does not have it weighs nothing
away_from : (port : ℕ) (ports : List ℕ) → list_any (λ (p : ℕ). p == port) ports ≡ false
    → All (λ (p : ℕ). port ≢ p) ports
away_from port [] none = All-nil (λ (p : ℕ). port ≢ p)
away_from port (p ∷ ports) none =
    let parts = or_parts (p == port) (list_any (λ (q : ℕ). q == port) ports) none in
    All-cons (λ (q : ℕ). port ≢ q) p ports (λ same. true≢false (sym (eq-eqb p port (sym same)) ∙ parts.0))
    (away_from port ports parts.1)

pub weighs_nothing : (network : DeclaredNetwork) (i port : ℕ) (weight : ℕ → Frame → ℕ) (n : ℕ) (j : Travel)
    → IsNetwork network → IsJourney network j → uses port (sender_at network j.release.sender) ≡ false
    → sum_by (hop_weight i port weight) (journey_hops network n j) ≤ 0
weighs_nothing network i port weight n j net is unused =
    let r : Release = j.release in
    let s : Sender = sender_at network r.sender in
    let f : Hop → ℕ = hop_weight i port weight in
    let paths : List (List ℕ) = legs_of s.ports s.branches in
    let whole : concat paths ≡ s.ports =
    concat-legs_of s.ports s.branches (journey_sender network j net is).branches in
    omega (
      arith,
      ap (λ (hs : List Hop). sum_by f hs) (hops_are n r s paths (legs_in j)),
      over_none f (hops_on n r s) port paths (legs_in j) (weightless i port weight n r s)
          (subst (All (λ (p : ℕ). port ≢ p)) (sym whole) (away_from port s.ports unused)),
    )

-- so with a frame of another sender
pub weighs_for_own : (network : DeclaredNetwork) (i port : ℕ) (weight : ℕ → Frame → ℕ) (n : ℕ) (j : Travel)
    → (j.release.sender ≡ i → ⊥) → sum_by (hop_weight i port weight) (journey_hops network n j) ≤ 0
weighs_for_own network i port weight n j other =
    let r : Release = j.release in
    let s : Sender = sender_at network r.sender in
    let f : Hop → ℕ = hop_weight i port weight in
    let each = each_hop (λ (g : Hop). f g ≤ 0) n r s (legs_in j)
    (λ k d h e times. counted-neither (get_or s.ports k d == port) (r.sender == i) _
    (λ there own. other (eqb-true r.sender i own))) in
    omega (arith, sum_by-none f (journey_hops network n j) each)

-- it weighs no more than along any route
pub weighs_by_routes : (network : DeclaredNetwork) (i port : ℕ) (weight : ℕ → Frame → ℕ) (most n : ℕ) (j : Travel)
    → IsNetwork network → IsJourney network j
    → ((m : ℕ) → m < listener_count (sender_at network j.release.sender)
    → sum_by (hop_weight i port weight) (hops_along n j.release (sender_at network j.release.sender)
    (route_to (sender_at network j.release.sender) m) (way_to (sender_at network j.release.sender) j m).hops) ≤ most)
    → sum_by (hop_weight i port weight) (journey_hops network n j) ≤ most
weighs_by_routes network i port weight most n j net is each =
    let s : Sender = sender_at network j.release.sender in
    let f : Hop → ℕ = hop_weight i port weight in
    elim (cases_Bool (uses port s)) as (λ _. sum_by f (journey_hops network n j) ≤ most) [
      | inl used ↦ (
          let stands : StandsAt s port = stands_at s port (journey_sender network j net is).branches used in
          omega (
            arith,
            weighs_on_route network i port weight n j stands.leg stands.hop net is stands.at,
            each stands.leg (leg_listener s port stands.leg stands.hop stands.at),
          ))
      | inr unused ↦ omega (arith, weighs_nothing network i port weight n j net is unused)
    ]
