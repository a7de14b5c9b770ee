use Rattle.std.proofs.Common.{◌≡◌, ℕ, ◌+◌, ◌-◌, ◌*◌, ◌<◌, ◌≤◌, cond, List, [], ◌∷◌, filter, length, All, sum_by}
use Rattle.std.proofs.Common.{true, sym, subst, ◌∙◌, arith}
use Rattle.std.specs.Prelude.{◌==◌}
use Rattle.std.proofs.lemmas.List.Elements.{All-nil, All-cons}
use Rattle.ats_num.specs.declared.time.TheConstants.{PS_PER_SECOND}
use Rattle.ats_facts.proofs.Lists.{all_right}
use Rattle.ats_topology.specs.Port.{port_at}
use Rattle.ats_clock.specs.declared.committed.Committed.{Committed}
use Rattle.ats_streams.specs.Branches.{leads_of, leg_at, legs_of}
use Rattle.ats_streams.proofs.BranchLemmas.{route-at}
use Rattle.ats_network.specs.Bridges.{MeetAtBridge}
use Rattle.ats_network.specs.Network.{DeclaredNetwork, IsNetwork}
use Rattle.ats_network.specs.Rates.{committed_at}
use Rattle.ats_network.specs.Sender.{Sender}
use Rattle.ats_network.specs.Senders.{sender_at, IsSender, AllNeighbours}
use Rattle.ats_certificate.specs.PortSums.{uses}
use Rattle.ats_group_law.proofs.WindowBits.{bits_in}
use Rattle.ats_port_rule.specs.Transmission.{Transmission}
use Rattle.ats_port_law.specs.PortLaw.{IsOffered, frame_of, frames_by}
use Rattle.ats_port_law.proofs.Sums.{sum_by-filter}
use Rattle.ats_port_law.proofs.Window.{eligible_bits, sender_window}
use Rattle.ats_trace.specs.Journey.{Travel}
use Rattle.ats_trace.specs.Projections.{hops_from, sent_by}
use Rattle.ats_trace.specs.Talker.{start_of, talker_of}
use Rattle.ats_trace.specs.Ways.{listener_count, route_to}
use Rattle.ats_soundness_law.proofs.Bits.{sum_by-map, hop_weight, frames_weight}
use Rattle.ats_soundness_law.proofs.Journeys.{StandsAt, leg_listener, listeners_many, route_starts, stands_at}
use Rattle.ats_soundness_law.proofs.Paths.{later_bridges, sender_is}
use Rattle.ats_soundness_law.proofs.Streams.{stream_exists}
use Rattle.ats_buffer_law.specs.Laws.{BridgeKeeps}

-- the node that a port leaves keeps what is asked
abbrev pub IsKept : (ℕ → Type 0) → DeclaredNetwork → ℕ → Type 0
IsKept Keeps network port = Keeps (port_at network.topology.ports port).from

-- where the talker does, so does the node that each port of a path leaves, where a bridge that it leaves does
by_path : (Keeps : ℕ → Type 0) (network : DeclaredNetwork) (path : List ℕ)
    → AllNeighbours (MeetAtBridge network.topology) path → Keeps (start_of network.topology.ports path)
    → All (λ q. BridgeKeeps Keeps network q → IsKept Keeps network q) path
by_path Keeps network [] meet keeps = All-nil (λ q. BridgeKeeps Keeps network q → IsKept Keeps network q)
by_path Keeps network (p ∷ path) meet keeps =
    All-cons (λ q. BridgeKeeps Keeps network q → IsKept Keeps network q) p path
    (λ bridge. keeps) (λ k d h bridge. bridge (later_bridges network.topology p path meet k d h))

-- so that which each port of a stream leaves
pub kept_at : (Keeps : ℕ → Type 0) (network : DeclaredNetwork) → IsNetwork network → (i : ℕ)
    → i < length network.streams → Keeps (talker_of network i)
    → (q : ℕ) → uses q (sender_at network i) ≡ true → BridgeKeeps Keeps network q → IsKept Keeps network q
kept_at Keeps network net i h keeps q used =
    let s : Sender = sender_at network i in
    let is : IsSender network.topology s = sender_is network net i (stream_exists network i h) in
    let stands : StandsAt s q = stands_at s q is.branches used in
    let m : ℕ = stands.leg in
    let within : m < listener_count s = leg_listener s q m stands.hop stands.at in
    let own : List ℕ = leg_at (legs_of s.ports s.branches) m in
    let Kept : ℕ → Type 0 = λ (p : ℕ). BridgeKeeps Keeps network p → IsKept Keeps network p in
    let along : All Kept (route_to s m) =
    by_path Keeps network (route_to s m) (is.bridges m [] within)
    (subst Keeps (sym (route_starts network.topology s m is within)) keeps) in
    let there : All Kept own =
    all_right Kept (leg_at (leads_of s.ports s.branches) m) own
    (subst (All Kept) (route-at s.ports s.branches m [] (listeners_many s m within)) along) in
    subst Kept stands.at.is (there stands.hop 0 stands.at.in_leg)

-- the bits of a stream that became eligible in a window of time at a port that is offered what it may be asked to send
-- are within the stream's rate and burst there
pub fed_window : (network : DeclaredNetwork) (run : List Travel) (port i : ℕ) (from to : ℕ)
    → IsOffered network port (sent_by network run port) → i < length network.streams → from ≤ to
    → PS_PER_SECOND * sum_by (hop_weight i port (λ n. bits_in from to)) (hops_from network 0 run)
    ≤ (committed_at network.topology port (sender_at network i)).rate * (to - from)
    + PS_PER_SECOND * (committed_at network.topology port (sender_at network i)).burst_bits
fed_window network run port i from to offered h order =
    let sent : List Transmission = sent_by network run port in
    let seen : Committed = committed_at network.topology port (sender_at network i) in
    let window = sender_window seen.rate seen.burst_bits i sent from to order (offered.streams i h) in
    let frames = frames_weight network run i port (bits_in from to) in
    let own : sum_by (bits_in from to) (frames_by i sent)
    ≡ sum_by (λ (y : Transmission). cond (y.sender == i) (eligible_bits from to y) 0) sent =
    sum_by-map frame_of (bits_in from to) (filter (λ (x : Transmission). x.sender == i) sent)
    ∙ sum_by-filter (λ (x : Transmission). bits_in from to (frame_of x)) (λ (x : Transmission). x.sender == i) sent in
    omega (arith, window, frames, own)
