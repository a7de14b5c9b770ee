-- What a node sends of the streams that begin there: their frames are sent at the first port of their routes alone,
-- since no other port of a route leaves that node.
use Rattle.std.proofs.Common.{◌≡◌, ◌≢◌, ℕ, ◌+◌, ◌<◌, ◌≤◌, Bool, true, false, cond, List, [], ◌∷◌, length, get_or, All}
use Rattle.std.proofs.Common.{sum_by, sym, ap, ◌∙◌, subst, inl, inr, arith}
use Rattle.std.specs.Prelude.{◌==◌}
use Rattle.std.proofs.lemmas.Bool.{cases_eq, eqb-true}
use Rattle.std.proofs.lemmas.List.Elements.{All-nil, All-cons, All-head, All-tail}
use Rattle.std.proofs.lemmas.List.Sums.{sum_by-append}
use Rattle.ats_facts.proofs.Lists.{pairs_head}
use Rattle.ats_num.specs.declared.time.Ps.{Ps}
use Rattle.ats_bucket.specs.Conforming.{Frame}
use Rattle.ats_topology.specs.Port.{port_at}
use Rattle.ats_topology.specs.Topology.{DeclaredTopology}
use Rattle.ats_topology.specs.Walks.{IsWalk}
use Rattle.ats_topology.specs.declared.port.Port.{Port}
use Rattle.ats_network.specs.Network.{DeclaredNetwork}
use Rattle.ats_network.specs.Path.{IsValidPath}
use Rattle.ats_network.specs.Sender.{Sender}
use Rattle.ats_network.specs.Senders.{sender_at, IsSender}
use Rattle.ats_network.proofs.PathLemmas.{nodes_to}
use Rattle.ats_port_law.proofs.Sums.{sum_by-none}
use Rattle.ats_trace.specs.Journey.{Travel, IsJourney, IsReleased, class_at}
use Rattle.ats_trace.specs.Projections.{Hop, hops_along, hop_at, journey_hops, sent_by, transmission_of}
use Rattle.ats_trace.specs.Run.{releases_of}
use Rattle.ats_trace.specs.Talker.{talker_of, start_of, frame_of, frames_of}
use Rattle.ats_trace.specs.Ways.{listener_count, route_to, way_to}
use Rattle.ats_trace.specs.declared.journey.Release.{Release}
use Rattle.ats_trace.specs.HopRecord.{HopRecord}
use Rattle.ats_soundness_law.proofs.Along.{hop_by, all_hops}
use Rattle.ats_soundness_law.proofs.Bits.{counted-le, counted-none, hop_weight, release_weight, releases_weight}
use Rattle.ats_soundness_law.proofs.Bits.{sent_of, sent_weight, weight_of}
use Rattle.ats_soundness_law.proofs.Journeys.{journey_route, route_starts}
use Rattle.ats_soundness_law.proofs.Known.{Case}
use Rattle.ats_soundness_law.proofs.Lifts.{run_numbered-le}
use Rattle.ats_soundness_law.proofs.Paths.{sender_is}
use Rattle.ats_soundness_law.proofs.Routes.{OnRoute}
use Rattle.ats_soundness_law.proofs.Weighed.{weighs_by_routes, weighs_for_own}
use Rattle.ats_soundness_law.proofs.Weights.{first-le}

-- the nodes that the ports of a walk leave are the first one and those to which the ports lead
leave_from : (P : ℕ → Type 0) (ports : List Port) (a b : ℕ) (path : List ℕ) → IsWalk ports a b path → P a
    → All P (nodes_to ports path) → All (λ (q : ℕ). P (port_at ports q).from) path
leave_from P ports a b [] walk here all = All-nil (λ (q : ℕ). P (port_at ports q).from)
leave_from P ports a b (q ∷ path) walk here all =
    All-cons (λ (q : ℕ). P (port_at ports q).from) q path (subst P (sym walk.0.from) here)
    (leave_from P ports (port_at ports q).to b path walk.1
    (All-head P (port_at ports q).to (nodes_to ports path) all)
    (All-tail P (port_at ports q).to (nodes_to ports path) all))

-- so only the first port of a path leaves the node where it begins
pub later_elsewhere : (topology : DeclaredTopology) (p : ℕ) (path : List ℕ) → IsValidPath topology (p ∷ path)
    → All (λ (q : ℕ). (port_at topology.ports p).from ≢ (port_at topology.ports q).from) path
later_elsewhere topology p path valid =
    let ports : List Port = topology.ports in
    let from : ℕ = (port_at ports p).from in
    let away : All (λ (n : ℕ). from ≢ n) (nodes_to ports (p ∷ path)) =
    pairs_head (λ m n. m ≢ n) from (nodes_to ports (p ∷ path)) valid.apart in
    leave_from (λ (n : ℕ). from ≢ n) ports (port_at ports p).to valid.listener path valid.walk.1
    (All-head (λ (n : ℕ). from ≢ n) (port_at ports p).to (nodes_to ports path) away)
    (All-tail (λ (n : ℕ). from ≢ n) (port_at ports p).to (nodes_to ports path) away)

-- a frame's weight at a port that leaves the node where its route begins is at most what it may be at the first port
weight_along : (network : DeclaredNetwork) (i port : ℕ) (weight : ℕ → Frame → ℕ) (most n : ℕ) (r : Release) (s : Sender)
    (path : List ℕ) (hops : List HopRecord) → IsValidPath network.topology path → IsReleased r hops
    → start_of network.topology.ports path ≡ (port_at network.topology.ports port).from
    → ((p : ℕ) (times : Ps × Ps) → hop_weight i port weight (hop_by n r (class_at s p) p r.at times) ≤ most)
    → sum_by (hop_weight i port weight) (hops_along n r s path hops) ≤ most
weight_along network i port weight most n r s [] hops valid released starts first = omega arith
weight_along network i port weight most n r s (p ∷ path) [] valid released starts first = omega arith
weight_along network i port weight most n r s (p ∷ path) (hop ∷ hops) valid released starts first =
    let f : Hop → ℕ = hop_weight i port weight in
    let here = first-le f most n r s p hop.verdict hop.sent released.1 (first p) in
    let none = sum_by-none f (hops_along n r s path hops)
    (all_hops (λ (g : Hop). f g ≤ 0) n r s path hops
    (λ k d h e times. counted-none (get_or path k d == port) _ (λ same.
    later_elsewhere network.topology p path valid k d h
    (starts ∙ ap (λ (q : ℕ). (port_at network.topology.ports q).from)
    (sym (eqb-true (get_or path k d) port same)))))) in
    let all = sum_by-append f (hop_at p (transmission_of n r (class_at s p) hop)) (hops_along n r s path hops) in
    omega (arith, here, none, all)

-- at a port of the node where a stream begins one frame of it weighs no more than its release
journey_own : (network : DeclaredNetwork) (i port : ℕ) (weight : ℕ → Frame → ℕ) (n : ℕ) (j : Travel)
    → (c : IsJourney network j) → (net : IsSender network.topology (sender_at network j.release.sender))
    → ((m : ℕ) → m < listener_count (sender_at network j.release.sender)
    → OnRoute (sender_at network j.release.sender) j m)
    → talker_of network j.release.sender ≡ (port_at network.topology.ports port).from
    → (m : ℕ) → m < listener_count (sender_at network j.release.sender)
    → sum_by (hop_weight i port weight) (hops_along n j.release (sender_at network j.release.sender)
    (route_to (sender_at network j.release.sender) m) (way_to (sender_at network j.release.sender) j m).hops)
    ≤ release_weight i (weight n) j
journey_own network i port weight n j is keeps on begins m within =
    let s : Sender = sender_at network j.release.sender in
    weight_along network i port weight (release_weight i (weight n) j) n j.release s (route_to s m) (way_to s j m).hops
    (keeps.valid m [] within) (on m within).released
    (route_starts network.topology s m keeps within ∙ begins)
    (λ p times. counted-le (p == port) (release_weight i (weight n) j))

-- so all its transmissions there weigh no more than all its releases, by a weight that does not go by frame numbers and
-- that is no less for each of them
abbrev IsOwn : DeclaredNetwork → ℕ → (ℕ → Frame → ℕ) → (Frame → ℕ) → ℕ → Travel → Type 0
IsOwn network i weight other n j = IsJourney network j
    × (j.release.sender ≡ i → weight n (frame_of j.release) ≤ other (frame_of j.release))

pub own_weight : (network : DeclaredNetwork) (run : List Travel) (i port : ℕ) (weight : ℕ → Frame → ℕ)
    (other : Frame → ℕ) → Case network run
    → talker_of network i ≡ (port_at network.topology.ports port).from
    → ((n : ℕ) (d : Travel) → n < length run → (get_or run n d).release.sender ≡ i
    → weight n (frame_of (get_or run n d).release) ≤ other (frame_of (get_or run n d).release))
    → sum_by (weight_of weight) (sent_of i (sent_by network run port)) ≤ sum_by other (frames_of i (releases_of run))
own_weight network run i port weight other c begins own =
    let each = run_numbered-le (IsOwn network i weight other) (hop_weight i port weight) (release_weight i other)
    network 0 run
    (λ n j is. elim (cases_eq j.release.sender i) as
    (λ _. sum_by (hop_weight i port weight) (journey_hops network n j) ≤ release_weight i other j) [
      | inl same ↦ (
          let least : release_weight i (weight n) j ≤ release_weight i other j =
          heavier (j.release.sender == i) (weight n (frame_of j.release)) (other (frame_of j.release)) (is.1 same) in
          omega (
            arith,
            least,
            weighs_by_routes network i port weight (release_weight i (weight n) j) n j c.net is.0
                (journey_own network i port weight n j is.0 (sender_is network c.net j.release.sender is.0.sender)
                (λ m within. journey_route network j m c.net is.0 within) (ap (talker_of network) same ∙ begins)),
          ))
      | inr other ↦ omega (arith, weighs_for_own network i port weight n j other)
    ])
    (λ n d within. (
    let same : n ≡ 0 + n = omega arith in
    subst (λ (m : ℕ). IsOwn network i weight other m (get_or run n d)) same
    (c.journeys n d within, own n d within))) in
    omega (arith, each, sent_weight network run i port weight, releases_weight run i other)
  where
    heavier : (b : Bool) (m n : ℕ) → m ≤ n → cond b m 0 ≤ cond b n 0
    heavier true m n h = h
    heavier false m n h = omega arith
