use Rattle.std.proofs.Common.{◌≡◌, ℕ, List, [], ◌∷◌, All, sym, ap, ◌∙◌, subst}
use Rattle.std.specs.Prelude.{Option, Some, None}
use Rattle.std.proofs.lemmas.List.Elements.{All-nil, All-cons, All-append, All-weaker}
use Rattle.ats_num.specs.declared.time.Ps.{Ps}
use Rattle.ats_topology.specs.Port.{port_at}
use Rattle.ats_network.specs.Sender.{Sender}
use Rattle.ats_network.specs.Path.{IsValidPath}
use Rattle.ats_network.specs.Network.{DeclaredNetwork, IsNetwork}
use Rattle.ats_network.specs.Senders.{sender_at, IsSender}
use Rattle.ats_group.specs.declared.verdict.Verdict.{Verdict}
use Rattle.ats_group.specs.declared.verdict.Verdict.TheVariants.{Eligible}
use Rattle.ats_trace.specs.Journey.{Travel, IsJourney, IsReleased, class_at, legs_at, legs_in}
use Rattle.ats_trace.specs.Projections.{Hop, Crossing, transmission_by, transmission_of, crossing_at}
use Rattle.ats_trace.specs.Projections.{crossings_along, crossings_from, journey_crossings}
use Rattle.ats_trace.specs.Talker.{start_of, talker_of}
use Rattle.ats_trace.specs.Ways.{route_to, way_to}
use Rattle.ats_trace.specs.declared.journey.Release.{Release}
use Rattle.ats_trace.specs.HopRecord.{HopRecord}
use Rattle.ats_trace.specs.declared.journey.Ending.{Ending}
use Rattle.ats_trace.specs.declared.journey.Ending.TheVariants.{Sink, Discard}
use Rattle.ats_soundness_law.proofs.Along.{hop_of, all_hops, all_were_sent}
use Rattle.ats_soundness_law.proofs.Journeys.{each_was_sent, journey_route, journey_sender, route_starts}
use Rattle.ats_soundness_law.proofs.Known.{Case, IsKnown, known}
use Rattle.ats_soundness_law.proofs.Lifts.{run_were_sent}
use Rattle.ats_soundness_law.proofs.OwnFrames.{later_elsewhere}
use Rattle.ats_buffer_law.proofs.Crossed.{run_crossings}
use Rattle.ats_buffer_law.proofs.OnRoutes.{crossings_by_routes}

-- a frame comes to a port of its talker when it becomes eligible there
abbrev pub IsOwnFrame : DeclaredNetwork → Crossing → Type 0
IsOwnFrame network c =
    talker_of network c.sent.sender ≡ (port_at network.topology.ports c.port).from → c.sent.eligible ≡ c.came

-- the first crossing of a journey
first_own : (network : DeclaredNetwork) (n class : ℕ) (r : Release) (p : ℕ) (arrival : Ps) (verdict : Verdict)
    (sent : Option (Ps × Ps)) (hops : List HopRecord) (ending : Ending) → arrival ≡ r.at → verdict ≡ Eligible r.at
    → All (IsOwnFrame network)
    (crossing_at r.octets arrival.0 p (transmission_by n r class verdict sent) hops ending)
first_own network n class r p arrival verdict sent hops ending at is =
    let Own : Verdict → Type 0 = λ (v : Verdict). All (IsOwnFrame network)
    (crossing_at r.octets arrival.0 p (transmission_by n r class v sent) hops ending) in
    let came : r.at.0 ≡ arrival.0 = ap (λ (t : Ps). t.0) (sym at) in
    subst Own (sym is) (by came sent hops ending)
  where
    by : r.at.0 ≡ arrival.0 → (sent : Option (Ps × Ps)) (hops : List HopRecord) (ending : Ending)
        → All (IsOwnFrame network)
        (crossing_at r.octets arrival.0 p (transmission_by n r class (Eligible r.at) sent) hops ending)
    by came None hops ending = All-nil (IsOwnFrame network)
    by came (Some times) (next ∷ hops) ending =
        All-cons (IsOwnFrame network) _ [] (λ own. came) (All-nil (IsOwnFrame network))
    by came (Some times) [] (Sink t) =
        All-cons (IsOwnFrame network) _ [] (λ own. came) (All-nil (IsOwnFrame network))
    by came (Some times) [] Discard = All-nil (IsOwnFrame network)

-- the later ones are at ports that leave other nodes
later_own : (network : DeclaredNetwork) (n : ℕ) (r : Release) (s : Sender) (p : ℕ) (path : List ℕ)
    (hops : List HopRecord) (ending : Ending) → IsValidPath network.topology (p ∷ path)
    → start_of network.topology.ports (p ∷ path) ≡ talker_of network r.sender
    → All (IsOwnFrame network) (crossings_along n r s path hops ending)
later_own network n r s p path hops ending valid starts =
    let Elsewhere : Hop → Type 0 = λ (g : Hop).
    talker_of network g.sent.sender ≡ (port_at network.topology.ports g.port).from → ⊥ in
    All-weaker (λ (c : Crossing). Elsewhere (hop_of c)) (IsOwnFrame network) (λ c elsewhere own. absurd (elsewhere own))
    (crossings_along n r s path hops ending)
    (all_were_sent Elsewhere n r s path hops ending
    (all_hops Elsewhere n r s path hops
    (λ k d h e times same. later_elsewhere network.topology p path valid k d h (starts ∙ same))))

own_along : (network : DeclaredNetwork) (n : ℕ) (r : Release) (s : Sender) (path : List ℕ) (hops : List HopRecord)
    (ending : Ending) → IsValidPath network.topology path
    → start_of network.topology.ports path ≡ talker_of network r.sender → IsReleased r hops
    → All (IsOwnFrame network) (crossings_along n r s path hops ending)
own_along network n r s [] hops ending valid starts released = All-nil (IsOwnFrame network)
own_along network n r s (p ∷ path) [] ending valid starts released = All-nil (IsOwnFrame network)
own_along network n r s (p ∷ path) (hop ∷ hops) ending valid starts released =
    All-append (IsOwnFrame network)
    (crossing_at r.octets hop.arrival.0 p (transmission_of n r (class_at s p) hop) hops ending)
    (crossings_along n r s path hops ending)
    (first_own network n (class_at s p) r p hop.arrival hop.verdict hop.sent hops ending released.0 released.1)
    (later_own network n r s p path hops ending valid starts)

journey_own : (network : DeclaredNetwork) → IsNetwork network → (n : ℕ) (j : Travel) → IsJourney network j
    → All (IsOwnFrame network) (journey_crossings network n j)
journey_own network net n j is =
    let s : Sender = sender_at network j.release.sender in
    let keeps : IsSender network.topology s = journey_sender network j net is in
    crossings_by_routes (IsOwnFrame network) network n j net is
    (λ m within. own_along network n j.release s (route_to s m) (way_to s j m).hops (way_to s j m).ending
    (keeps.valid m [] within) (route_starts network.topology s m keeps within)
    (journey_route network j m net is within).released)

pub all_own : (network : DeclaredNetwork) (run : List Travel) → Case network run
    → All (IsOwnFrame network) (crossings_from network 0 run)
all_own network run c =
    run_crossings (IsJourney network) (IsOwnFrame network) network 0 run (journey_own network c.net) c.journeys

-- and of each crossing is known what is known of its transmission
pub all_known : (network : DeclaredNetwork) (run : List Travel) → Case network run
    → All (λ (c : Crossing). IsKnown network (hop_of c)) (crossings_from network 0 run)
all_known network run c =
    run_were_sent (IsKnown network) network 0 run
    (λ n j. each_was_sent (IsKnown network) n j.release (sender_at network j.release.sender)
    (legs_at network j.release.sender) (legs_in j)) (known network run c)
