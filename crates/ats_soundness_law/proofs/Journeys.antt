-- What is told of a journey, by its legs and by the routes of its sender.
use Rattle.std.proofs.Common.{◌≡◌, ◌≢◌, ℕ, suc, ◌<◌, ◌≤◌, true, List, [], ◌∷◌, ◌++◌, length, get_or}
use Rattle.std.proofs.Common.{All, sum_by, refl, sym, ap, ◌∙◌, subst, inl, inr, arith}
use Rattle.std.specs.Prelude.{◌==◌}
use Rattle.std.specs.List.{AllPairs, concat, list_any}
use Rattle.std.proofs.lemmas.Bool.{or_cases, eqb-true, false≢true}
use Rattle.std.proofs.lemmas.List.Elements.{All-nil, All-append}
use Rattle.std.proofs.lemmas.List.Sums.{sum_by-append}
use Rattle.ats_facts.proofs.Lists.{all_left, all_right}
use Rattle.ats_streams.specs.Branches.{AreBranches, leads_of, leg_at, legs_of}
use Rattle.ats_streams.specs.declared.branch.Branch.{Branch}
use Rattle.ats_streams.proofs.BranchLemmas.{legs-length, route-at, routes-length}
use Rattle.ats_streams.proofs.BranchLemmas.{trunk_within}
use Rattle.ats_streams.proofs.RouteLemmas.{each_on_routes}
use Rattle.ats_streams.specs.Path.{IsPath}
use Rattle.ats_topology.specs.Port.{port_at}
use Rattle.ats_topology.specs.Topology.{DeclaredTopology}
use Rattle.ats_topology.specs.declared.port.Port.{Port}
use Rattle.ats_network.specs.Network.{DeclaredNetwork, IsNetwork}
use Rattle.ats_network.specs.Path.{IsTree}
use Rattle.ats_network.specs.Sender.{Sender}
use Rattle.ats_network.specs.Senders.{sender_at, no_sender, IsSender}
use Rattle.ats_network.proofs.SenderLemmas.{each_is_sender}
use Rattle.ats_network.proofs.Parts.{part_pairs}
use Rattle.ats_network.proofs.ValidRoutes.{from_talker, route_part}
use Rattle.ats_network.proofs.ValidRoutes.{route_begins}
use Rattle.ats_certificate.specs.PortSums.{uses}
use Rattle.ats_trace.specs.Journey.{Leg, Travel, IsJourney, legs_in}
use Rattle.ats_trace.specs.Projections.{Hop, Crossing, Handed, crossings_along, crossings_over, handed_along}
use Rattle.ats_trace.specs.Projections.{handed_over, hops_along, hops_over, journey_crossings, journey_handed}
use Rattle.ats_trace.specs.Projections.{journey_hops}
use Rattle.ats_trace.specs.Talker.{start_of}
use Rattle.ats_trace.specs.Ways.{listener_count, route_to, way_to}
use Rattle.ats_trace.specs.declared.journey.Release.{Release}
use Rattle.ats_trace.proofs.Legs.{Stands, concat-legs_of, legs_keep, place_is, stands}
use Rattle.ats_soundness_law.proofs.Along.{AtPort, hop_of, all_hops, all_have_crossed, all_were_sent}
use Rattle.ats_soundness_law.proofs.Over.{crossings_are, crossings_on, handed_are, handed_on_leg, hops_are, hops_on}
use Rattle.ats_soundness_law.proofs.Over.{over, over_all}
use Rattle.ats_soundness_law.proofs.Parts.{part_all, part-le}
use Rattle.ats_soundness_law.proofs.Routes.{OnRoute, on_route, own_leg, own_ports}
use Rattle.ats_soundness_law.proofs.Weights.{handed-le}

-- what holds of each transmission that a frame may make at the ports of its sender holds of each that it makes
pub each_hop : (P : Hop → Type 0) (frame : ℕ) (release : Release) (s : Sender) (legs : List Leg)
    → All (AtPort P frame release s) s.ports
    → All P (hops_over frame release s (legs_of s.ports s.branches) legs)
each_hop P frame release s legs each =
    let paths : List (List ℕ) = legs_of s.ports s.branches in
    subst (All P) (sym (hops_are frame release s paths legs))
    (over_all P (hops_on frame release s) paths legs
    (λ m in_paths in_legs. all_hops P frame release s (leg_at paths m) (get_or legs m _).hops
    (legs_keep (AtPort P frame release s) 0 s.ports s.branches each m [] in_paths)))

-- what crossed a port was sent there
pub each_was_sent : (P : Hop → Type 0) (frame : ℕ) (release : Release) (s : Sender) (paths : List (List ℕ))
    (legs : List Leg) → All P (hops_over frame release s paths legs)
    → All (λ (c : Crossing). P (hop_of c)) (crossings_over frame release s paths legs)
each_was_sent P frame release s [] legs all = All-nil (λ (c : Crossing). P (hop_of c))
each_was_sent P frame release s (path ∷ paths) [] all = All-nil (λ (c : Crossing). P (hop_of c))
each_was_sent P frame release s (path ∷ paths) (leg ∷ legs) all =
    let here : List Hop = hops_along frame release s path leg.hops in
    let rest : List Hop = hops_over frame release s paths legs in
    All-append (λ (c : Crossing). P (hop_of c)) (crossings_along frame release s path leg.hops leg.ending)
    (crossings_over frame release s paths legs)
    (all_were_sent P frame release s path leg.hops leg.ending (all_left P here rest all))
    (each_was_sent P frame release s paths legs (all_right P here rest all))

-- what is handed on crossed the port
pub each_has_crossed : (P : Crossing → Type 0) (frame : ℕ) (release : Release) (s : Sender) (paths : List (List ℕ))
    (legs : List Leg) → All P (crossings_over frame release s paths legs)
    → All (λ (h : Handed). P h.crossing) (handed_over frame release s paths legs)
each_has_crossed P frame release s [] legs all = All-nil (λ (h : Handed). P h.crossing)
each_has_crossed P frame release s (path ∷ paths) [] all = All-nil (λ (h : Handed). P h.crossing)
each_has_crossed P frame release s (path ∷ paths) (leg ∷ legs) all =
    let here : List Crossing = crossings_along frame release s path leg.hops leg.ending in
    let rest : List Crossing = crossings_over frame release s paths legs in
    All-append (λ (h : Handed). P h.crossing) (handed_along frame release s path leg.hops)
    (handed_over frame release s paths legs)
    (all_have_crossed P frame release s path leg.hops leg.ending (all_left P here rest all))
    (each_has_crossed P frame release s paths legs (all_right P here rest all))

-- what is handed on weighs no more than what is sent
pub each_handed-le : (f : Hop → ℕ) (frame : ℕ) (release : Release) (s : Sender) (paths : List (List ℕ))
    (legs : List Leg)
    → sum_by (λ (h : Handed). f (hop_of h.crossing)) (handed_over frame release s paths legs)
    ≤ sum_by f (hops_over frame release s paths legs)
each_handed-le f frame release s [] legs = omega arith
each_handed-le f frame release s (path ∷ paths) [] = omega arith
each_handed-le f frame release s (path ∷ paths) (leg ∷ legs) =
    let g : Handed → ℕ = λ (h : Handed). f (hop_of h.crossing) in
    omega (
      arith,
      handed-le f frame release s path leg.hops,
      each_handed-le f frame release s paths legs,
      sum_by-append g (handed_along frame release s path leg.hops) (handed_over frame release s paths legs),
      sum_by-append f (hops_along frame release s path leg.hops) (hops_over frame release s paths legs),
    )

-- the sender of a journey, and its way along the route to each listener
pub journey_sender : (network : DeclaredNetwork) (j : Travel) → IsNetwork network → IsJourney network j
    → IsSender network.topology (sender_at network j.release.sender)
journey_sender network j net is = each_is_sender network net j.release.sender no_sender is.sender

pub listeners_many : (s : Sender) (m : ℕ) → m < listener_count s → m ≤ length s.branches
listeners_many s m within = omega (arith, routes-length s.ports s.branches, within)

pub journey_route : (network : DeclaredNetwork) (j : Travel) (m : ℕ) → IsNetwork network → IsJourney network j
    → m < listener_count (sender_at network j.release.sender) → OnRoute (sender_at network j.release.sender) j m
journey_route network j m net is within =
    on_route network.topology (sender_at network j.release.sender) j m (journey_sender network j net is) is.copies
    is.way is.released (listeners_many (sender_at network j.release.sender) m within)

-- what holds of each transmission along each route holds of all of the journey
pub hops_by_routes : (P : Hop → Type 0) (network : DeclaredNetwork) (n : ℕ) (j : Travel) → IsNetwork network
    → IsJourney network j
    → ((m : ℕ) → m < listener_count (sender_at network j.release.sender)
    → All P (hops_along n j.release (sender_at network j.release.sender)
    (route_to (sender_at network j.release.sender) m) (way_to (sender_at network j.release.sender) j m).hops))
    → All P (journey_hops network n j)
hops_by_routes P network n j net is each =
    let r : Release = j.release in
    let s : Sender = sender_at network r.sender in
    let paths : List (List ℕ) = legs_of s.ports s.branches in
    subst (All P) (sym (hops_are n r s paths (legs_in j)))
    (over_all P (hops_on n r s) paths (legs_in j)
    (λ m in_paths in_legs. (
    let within : m < listener_count s =
    omega (arith, in_paths, legs-length 0 s.ports s.branches, routes-length s.ports s.branches) in
    part_all P (hops_on n r s (own_ports s m) (own_leg j m)) (hops_along n r s (route_to s m) (way_to s j m).hops)
    ((journey_route network j m net is within).own_hops n) (each m within))))

pub handed_by_routes : (P : Handed → Type 0) (network : DeclaredNetwork) (n : ℕ) (j : Travel) → IsNetwork network
    → IsJourney network j
    → ((m : ℕ) → m < listener_count (sender_at network j.release.sender)
    → All P (handed_along n j.release (sender_at network j.release.sender)
    (route_to (sender_at network j.release.sender) m) (way_to (sender_at network j.release.sender) j m).hops))
    → All P (journey_handed network n j)
handed_by_routes P network n j net is each =
    let r : Release = j.release in
    let s : Sender = sender_at network r.sender in
    let paths : List (List ℕ) = legs_of s.ports s.branches in
    subst (All P) (sym (handed_are n r s paths (legs_in j)))
    (over_all P (handed_on_leg n r s) paths (legs_in j)
    (λ m in_paths in_legs. (
    let within : m < listener_count s =
    omega (arith, in_paths, legs-length 0 s.ports s.branches, routes-length s.ports s.branches) in
    part_all P (handed_on_leg n r s (own_ports s m) (own_leg j m))
    (handed_along n r s (route_to s m) (way_to s j m).hops)
    ((journey_route network j m net is within).own_handed n) (each m within))))

-- what holds of all that a journey hands on, or that crosses a port, holds of that along each route
pub handed_on_route : (P : Handed → Type 0) (network : DeclaredNetwork) (n : ℕ) (j : Travel) (m : ℕ)
    → OnRoute (sender_at network j.release.sender) j m → All P (journey_handed network n j)
    → All P (handed_along n j.release (sender_at network j.release.sender)
    (route_to (sender_at network j.release.sender) m) (way_to (sender_at network j.release.sender) j m).hops)
handed_on_route P network n j m on all =
    let r : Release = j.release in
    let s : Sender = sender_at network r.sender in
    let paths : List (List ℕ) = legs_of s.ports s.branches in
    part_all P (handed_along n r s (route_to s m) (way_to s j m).hops) (over (handed_on_leg n r s) paths (legs_in j))
    (on.handed n) (subst (All P) (handed_are n r s paths (legs_in j)) all)

pub crossings_on_route : (P : Crossing → Type 0) (network : DeclaredNetwork) (n : ℕ) (j : Travel) (m : ℕ)
    → OnRoute (sender_at network j.release.sender) j m → All P (journey_crossings network n j)
    → All P (crossings_along n j.release (sender_at network j.release.sender)
    (route_to (sender_at network j.release.sender) m) (way_to (sender_at network j.release.sender) j m).hops
    (way_to (sender_at network j.release.sender) j m).ending)
crossings_on_route P network n j m on all =
    let r : Release = j.release in
    let s : Sender = sender_at network r.sender in
    let paths : List (List ℕ) = legs_of s.ports s.branches in
    part_all P (crossings_along n r s (route_to s m) (way_to s j m).hops (way_to s j m).ending)
    (over (crossings_on n r s) paths (legs_in j))
    (on.crossings n) (subst (All P) (crossings_are n r s paths (legs_in j)) all)

-- and what is handed on along a route weighs no more than all that is
pub route_handed-le : (g : Handed → ℕ) (network : DeclaredNetwork) (n : ℕ) (j : Travel) (m : ℕ)
    → OnRoute (sender_at network j.release.sender) j m
    → sum_by g (handed_along n j.release (sender_at network j.release.sender)
    (route_to (sender_at network j.release.sender) m) (way_to (sender_at network j.release.sender) j m).hops)
    ≤ sum_by g (journey_handed network n j)
route_handed-le g network n j m on =
    let r : Release = j.release in
    let s : Sender = sender_at network r.sender in
    let paths : List (List ℕ) = legs_of s.ports s.branches in
    omega (
      arith,
      part-le g (handed_along n r s (route_to s m) (way_to s j m).hops)
          (over (handed_on_leg n r s) paths (legs_in j)) (on.handed n),
      ap (λ (hs : List Handed). sum_by g hs) (handed_are n r s paths (legs_in j)),
    )

-- what holds of each port of a sender holds of each of a route
pub each_on_route : (P : ℕ → Type 0) (s : Sender) (m : ℕ) → All P s.ports → m < listener_count s
    → All P (route_to s m)
each_on_route P s m all within = each_on_routes P s.ports s.branches all m [] within

-- its ports are different
pub route_apart : (topology : DeclaredTopology) (s : Sender) (m : ℕ) → IsSender topology s → m < listener_count s
    → AllPairs (λ p q. p ≢ q) (route_to s m)
route_apart topology s m keeps within =
    let many : m ≤ length s.branches = listeners_many s m within in
    let route : List ℕ = leg_at (leads_of s.ports s.branches) m ++ leg_at (legs_of s.ports s.branches) m in
    subst (AllPairs (λ p q. p ≢ q)) (sym (route-at s.ports s.branches m [] many))
    (part_pairs (λ p q. p ≢ q) route s.ports (route_part s.ports s.branches keeps.branches m many) keeps.apart)

-- each route begins at the talker
pub start_is : (ports : List Port) (path : List ℕ) → 0 < length path
    → start_of ports path ≡ (port_at ports (get_or path 0 0)).from
start_is ports [] some = absurd (omega arith)
start_is ports (p ∷ path) some = refl

pub route_starts : (topology : DeclaredTopology) (s : Sender) (m : ℕ) → IsSender topology s → m < listener_count s
    → start_of topology.ports (route_to s m) ≡ start_of topology.ports s.ports
route_starts topology s m keeps within =
    let tree : IsTree topology s.ports s.branches = keeps.tree in
    let some : 0 < length (leg_at (legs_of s.ports s.branches) 0) = tree.trunk.some in
    let many : m ≤ length s.branches = listeners_many s m within in
    let whole : leg_at (leads_of s.ports s.branches) m ++ leg_at (legs_of s.ports s.branches) m ≡ route_to s m =
    sym (route-at s.ports s.branches m [] many) in
    let path : IsPath (route_to s m) = keeps.routes m [] (omega (arith, many, routes-length s.ports s.branches)) in
    start_is topology.ports (route_to s m) (omega (arith, path.least))
    ∙ subst (λ (route : List ℕ). (port_at topology.ports (get_or route 0 0)).from ≡ tree.trunk.talker) whole
    (route_begins topology s.ports s.branches keeps.branches tree m many)
    ∙ sym (from_talker topology s.ports s.branches tree some)
    ∙ sym (start_is topology.ports s.ports (ports_some s.ports s.branches some))
  where
    ports_some : (ports : List ℕ) (branches : List Branch) → 0 < length (leg_at (legs_of ports branches) 0)
        → 0 < length ports
    ports_some [] [] some = some
    ports_some [] (b ∷ branches) some = omega (arith, some, trunk_within [] (b ∷ branches))
    ports_some (p ∷ ports) branches some = omega arith

-- a port is that at a hop of a leg of a sender
pub record IsAt (s : Sender) (port leg hop : ℕ) : Type 0 where
  pub in_legs : leg < length (legs_of s.ports s.branches)
  pub in_leg : hop < length (leg_at (legs_of s.ports s.branches) leg)
  pub is : get_or (leg_at (legs_of s.ports s.branches) leg) hop 0 ≡ port

-- where a sender has a port, it stands at a hop of one of its legs
pub record StandsAt (s : Sender) (port : ℕ) : Type 0 where
  pub leg : ℕ
  pub hop : ℕ
  pub at : IsAt s port leg hop

-- a place of a number in a list
record Place (port : ℕ) (ports : List ℕ) : Type 0 where
  place : ℕ
  within : place < length ports
  is : get_or ports place 0 ≡ port

place_in : (port : ℕ) (ports : List ℕ) → list_any (λ (p : ℕ). p == port) ports ≡ true → Place port ports
place_in port [] on = absurd (false≢true on)
place_in port (p ∷ ports) on =
    elim (or_cases (p == port) (list_any (λ (q : ℕ). q == port) ports) on) as (λ _. Place port (p ∷ ports)) [
      | inl same ↦ record { place = 0; within = omega arith; is = eqb-true p port same }
      | inr later ↦ (
          let there : Place port ports = place_in port ports later in
          record { place = suc there.place; within = omega (arith, there.within); is = there.is })
    ]

pub stands_at : (s : Sender) (port : ℕ) → AreBranches s.ports s.branches → uses port s ≡ true → StandsAt s port
stands_at s port are used =
    let legs : List (List ℕ) = legs_of s.ports s.branches in
    let whole : concat legs ≡ s.ports = concat-legs_of s.ports s.branches are in
    let there : Place port s.ports = place_in port s.ports used in
    let at : Stands legs there.place =
    stands legs there.place (subst (λ (l : List ℕ). there.place < length l) (sym whole) there.within) in
    record {
      leg = at.leg;
      hop = at.hop;
      at = record {
        in_legs = at.in_legs;
        in_leg = at.in_leg;
        is = sym (place_is legs at.leg at.hop at.in_legs at.in_leg)
            ∙ ap (λ (k : ℕ). get_or (concat legs) k 0) at.there
            ∙ ap (λ (l : List ℕ). get_or l there.place 0) whole ∙ there.is;
      };
    }

-- a route ends with each leg
pub leg_listener : (s : Sender) (port leg hop : ℕ) → IsAt s port leg hop → leg < listener_count s
leg_listener s port leg hop at =
    omega (arith, at.in_legs, legs-length 0 s.ports s.branches, routes-length s.ports s.branches)
