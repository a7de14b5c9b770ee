-- Where a node keeps its buckets, all frames that its ports send have declared sizes.
use Rattle.std.proofs.Common.{◌≡◌, ℕ, ◌<◌, true, List, [], ◌∷◌, length, get_or, All, refl, ap, ◌∙◌, subst, sym, arith}
use Rattle.std.proofs.lemmas.List.{get_or-map, length-map}
use Rattle.std.proofs.lemmas.List.Elements.{All-nil, All-append, All-head, All-tail}
use Rattle.ats_topology.specs.Port.{port_at}
use Rattle.ats_network.specs.Sender.{Sender}
use Rattle.ats_network.specs.Bridges.{MeetAtBridge}
use Rattle.ats_network.specs.Network.{DeclaredNetwork, IsNetwork, senders_of}
use Rattle.ats_network.specs.Senders.{sender_at, IsSender}
use Rattle.ats_certificate.specs.PortSums.{uses}
use Rattle.ats_streams.specs.Traffic.{is_declared_size}
use Rattle.ats_group.specs.Judge.{OnEligible}
use Rattle.ats_trace.specs.Journey.{Travel, IsJourney, IsWay, class_at}
use Rattle.ats_trace.specs.Projections.{Handed, hops_along, handed_along, journey_hops, journey_handed}
use Rattle.ats_trace.specs.Projections.{hop_at, transmission_of}
use Rattle.ats_trace.specs.Eligibility.{declared_by}
use Rattle.ats_trace.specs.Run.{releases_of}
use Rattle.ats_trace.specs.Talker.{IsDeclaredSize, talker_of, start_of}
use Rattle.ats_trace.specs.Ways.{route_to, way_to}
use Rattle.ats_trace.specs.declared.journey.Release.{Release}
use Rattle.ats_trace.specs.HopRecord.{HopRecord}
use Rattle.ats_trace.specs.declared.journey.Ending.{Ending}
use Rattle.ats_soundness_law.proofs.Along.{AtPort, AtPorts, one_hop, all_hops, all_handed}
use Rattle.ats_soundness_law.proofs.Behind.{later_sent}
use Rattle.ats_soundness_law.proofs.Known.{Case, bits_of_size}
use Rattle.ats_soundness_law.proofs.Journeys.{each_on_route, handed_by_routes, handed_on_route}
use Rattle.ats_soundness_law.proofs.Journeys.{hops_by_routes, journey_route, route_starts}
use Rattle.ats_soundness_law.proofs.Offered.{DeclaredAt}
use Rattle.ats_soundness_law.proofs.Paths.{sender_is, neighbours_with, uses_own}
use Rattle.ats_soundness_law.proofs.Routes.{OnRoute}
use Rattle.ats_soundness_law.proofs.Sized.{IsSized}

-- a frame of a declared size makes declared transmissions at the ports of its sender
sized_along : (network : DeclaredNetwork) (port n : ℕ) (r : Release) → r.sender < length (senders_of network)
    → (path : List ℕ) → All (λ (p : ℕ). uses p (sender_at network r.sender) ≡ true) path
    → All (AtPort (λ g. is_declared_size (declared_by network r.sender) r.octets ≡ true → DeclaredAt network port g) n r
    (sender_at network r.sender)) path
sized_along network port n r exists path used k d h e times size same =
    let sizes = bits_of_size network r.sender r.octets size in
    record {
      exists = exists;
      uses = subst (λ (q : ℕ). uses q (sender_at network r.sender) ≡ true) same (used k d h);
      class = ap (class_at (sender_at network r.sender)) same;
      least = sizes.0;
      most = sizes.1;
    }

-- a frame that goes on was let through before, so it has a declared size at each port but the first; at the first,
-- where its release has one
declared_along : (network : DeclaredNetwork) (port n : ℕ) (r : Release) → r.sender < length (senders_of network)
    → (path : List ℕ) (hops : List HopRecord) (ending : Ending)
    → All (λ (p : ℕ). uses p (sender_at network r.sender) ≡ true) path
    → IsWay path hops ending
    → All (λ (h : Handed). OnEligible h.verdict (λ e. is_declared_size (declared_by network r.sender) r.octets ≡ true))
    (handed_along n r (sender_at network r.sender) path hops)
    → (start_of network.topology.ports path ≡ (port_at network.topology.ports port).from
    → is_declared_size (declared_by network r.sender) r.octets ≡ true)
    → All (DeclaredAt network port) (hops_along n r (sender_at network r.sender) path hops)
declared_along network port n r exists [] hops ending used way handed own = All-nil (DeclaredAt network port)
declared_along network port n r exists (p ∷ path) [] ending used way handed own = All-nil (DeclaredAt network port)
declared_along network port n r exists (p ∷ path) (hop ∷ hops) ending used way handed own =
    let s : Sender = sender_at network r.sender in
    let Sized : Type 0 = is_declared_size (declared_by network r.sender) r.octets ≡ true in
    let sizes = later_sent Sized n r s p path hop hops ending way handed in
    let at = sized_along network port n r exists (p ∷ path) used in
    let each = all_hops (λ g. Sized → DeclaredAt network port g) n r s path hops
    (All-tail (AtPort (λ g. Sized → DeclaredAt network port g) n r s) p path at) in
    All-append (DeclaredAt network port) (hop_at p (transmission_of n r (class_at s p) hop))
    (hops_along n r s path hops)
    (one_hop (DeclaredAt network port) n r s p hop.verdict hop.sent
    (λ e times same. All-head (AtPort (λ g. Sized → DeclaredAt network port g) n r s) p path at e times
    (own (ap (λ (q : ℕ). (port_at network.topology.ports q).from) same)) same))
    (λ k d h. each k d h (sizes k d h))

-- one release is told along the whole way
same_release : (network : DeclaredNetwork) → IsNetwork network → (n : ℕ) (j : Travel) → IsJourney network j
    → All (IsSized network) (journey_handed network n j)
    → All (λ (h : Handed).
    OnEligible h.verdict (λ e. is_declared_size (declared_by network j.release.sender) j.release.octets ≡ true))
    (journey_handed network n j)
same_release network net n j is all k d h =
    let r : Release = j.release in
    let s : Sender = sender_at network r.sender in
    let keeps : IsSender network.topology s = sender_is network net r.sender is.sender in
    let OfRelease : Handed → Type 0 = λ (h : Handed). (h.crossing.sent.sender ≡ r.sender)
    × (h.crossing.octets ≡ r.octets) in
    let told = handed_by_routes OfRelease network n j net is
    (λ m within.
    all_handed OfRelease n r s (route_to s m) (way_to s j m).hops (way_to s j m).ending
    (neighbours_with (λ p. p < length network.topology.ports) (MeetAtBridge network.topology)
    (AtPorts OfRelease n r s)
    (λ a b within meet came e times arrival verdict. (refl, refl)) (route_to s m)
    (each_on_route (λ p. p < length network.topology.ports) s m keeps.ports within) (keeps.bridges m [] within))
    (journey_route network j m net is within).way) in
    let one : Handed = get_or (journey_handed network n j) k d in
    let BySender : ℕ → Type 0 =
    λ (i : ℕ). OnEligible one.verdict (λ e. is_declared_size (declared_by network i) one.crossing.octets ≡ true) in
    let ByOctets : ℕ → Type 0 =
    λ (o : ℕ). OnEligible one.verdict (λ e. is_declared_size (declared_by network r.sender) o ≡ true) in
    subst ByOctets (told k d h).1 (subst BySender (told k d h).0 (all k d h))

-- a journey, of which the release has a declared size where its talker is this node
pub record Paced (network : DeclaredNetwork) (node : ℕ) (j : Travel) : Type 0 where
  pub is : IsJourney network j
  pub size : talker_of network j.release.sender ≡ node
      → is_declared_size (declared_by network j.release.sender) j.release.octets ≡ true

pub paced : (network : DeclaredNetwork) (run : List Travel) (node : ℕ) → Case network run
    → All (λ (r : Release). r.sender < length (senders_of network) → talker_of network r.sender ≡ node
    → IsDeclaredSize network r) (releases_of run)
    → All (Paced network node) run
paced network run node c sizes k d h =
    let j : Travel = get_or run k d in
    let is : IsJourney network j = c.journeys k d h in
    let Size : Release → Type 0 = λ (r : Release). r.sender < length (senders_of network)
    → talker_of network r.sender ≡ node → is_declared_size (declared_by network r.sender) r.octets ≡ true in
    let size : Size j.release = subst Size (get_or-map (λ (j : Travel). j.release) run k d d.release h)
    (sizes k d.release (omega (arith, h, length-map run (λ (j : Travel). j.release)))) in
    record { is = is; size = size is.sender }

-- so all that it makes a port send has
pub journey_declared : (network : DeclaredNetwork) (run : List Travel) (port : ℕ) → Case network run
    → (n : ℕ) (j : Travel)
    → Paced network (port_at network.topology.ports port).from j
    → All (IsSized network) (journey_handed network n j) → All (DeclaredAt network port) (journey_hops network n j)
journey_declared network run port c n j paced all =
    let s : Sender = sender_at network j.release.sender in
    let keeps : IsSender network.topology s = sender_is network c.net j.release.sender paced.is.sender in
    let Sized : Handed → Type 0 = λ (h : Handed).
    OnEligible h.verdict (λ e. is_declared_size (declared_by network j.release.sender) j.release.octets ≡ true) in
    hops_by_routes (DeclaredAt network port) network n j c.net paced.is
    (λ m within. (
    let on : OnRoute s j m = journey_route network j m c.net paced.is within in
    declared_along network port n j.release paced.is.sender (route_to s m) (way_to s j m).hops (way_to s j m).ending
    (each_on_route (λ p. uses p s ≡ true) s m (uses_own s) within) on.way
    (handed_on_route Sized network n j m on (same_release network c.net n j paced.is all))
    (λ start. paced.size (sym (route_starts network.topology s m keeps within) ∙ start))))
