-- Streams as senders, and their routes.
use Rattle.std.proofs.Common.{◌≡◌, ℕ, ◌+◌, ◌-◌, ◌≤◌, ◌<◌, true, eqb, List, [], get_or, length, length-append, map, refl}
use Rattle.std.proofs.Common.{subst, sym, ap, ◌∙◌, arith}
use Rattle.std.specs.List.{All}
use Rattle.std.proofs.lemmas.Bool.{eq-eqb}
use Rattle.std.proofs.lemmas.List.{get_or-append_right, get_or-map, get_or_append_left}
use Rattle.std.proofs.lemmas.List.{length-map}
use Rattle.std.proofs.lemmas.List.Folds.{list_any_at}
use Rattle.ats_num.specs.Wire.{bits_of}
use Rattle.ats_streams.specs.Path.{IsPath}
use Rattle.ats_streams.proofs.BranchLemmas.{routes-length}
use Rattle.ats_streams.proofs.RouteLemmas.{each_on_routes}
use Rattle.ats_network.specs.Sender.{Sender, flow_sender, stream_sender}
use Rattle.ats_network.specs.Edits.{no_stream}
use Rattle.ats_network.specs.Network.{DeclaredNetwork, IsNetwork, senders_of}
use Rattle.ats_network.specs.Senders.{no_sender, sender_at}
use Rattle.ats_network.proofs.SenderLemmas.{no_flow, sender_keeps}
use Rattle.ats_certificate.specs.PortSums.{uses}
use Rattle.ats_trace.specs.Ways.{listener_count, route_to}

-- the first senders are the streams
pub stream_at : (network : DeclaredNetwork) (i : ℕ) → i < length network.streams
    → sender_at network i ≡ stream_sender (get_or network.streams i no_stream)
stream_at network i h =
    let streams : List Sender = map stream_sender network.streams in
    get_or_append_left streams (map flow_sender network.flows) no_sender i
    (omega (arith, h, length-map network.streams stream_sender))
    ∙ get_or-map stream_sender network.streams i no_stream no_sender h

-- and the others are the flows
pub flow_at : (network : DeclaredNetwork) (k : ℕ) → k < length network.flows
    → sender_at network (length network.streams + k) ≡ flow_sender (get_or network.flows k no_flow)
flow_at network k h =
    let streams : List Sender = map stream_sender network.streams in
    let flows : List Sender = map flow_sender network.flows in
    let place : ℕ = length network.streams + k in
    let own : place - length network.streams ≡ k = omega arith in
    get_or-append_right streams flows (length network.streams) place no_sender
    (length-map network.streams stream_sender) (omega arith)
    ∙ ap (λ (n : ℕ). get_or flows n no_sender) own
    ∙ get_or-map flow_sender network.flows k no_flow no_sender h

-- the burst of each covers its longest frame
pub stream_covers : (network : DeclaredNetwork) (i : ℕ) → IsNetwork network → i < length network.streams
    → bits_of (sender_at network i).max_octets ≤ (sender_at network i).burst_bits
stream_covers network i net h =
    subst (λ (s : Sender). bits_of s.max_octets ≤ s.burst_bits) (sym (stream_at network i h))
    (net.streams i no_stream h).rules.covers

-- each is a sender
pub stream_within : (network : DeclaredNetwork) (i : ℕ) → i < length network.streams → i < length (senders_of network)
stream_within network i h =
    omega (
      arith,
      h,
      length-append (map stream_sender network.streams) (map flow_sender network.flows),
      length-map network.streams stream_sender,
    )

-- it has a listener for each of its legs
pub is_listener : (s : Sender) (listener : ℕ) → listener ≤ length s.branches → listener < listener_count s
is_listener s listener within = omega (arith, within, routes-length s.ports s.branches)

-- the route to each has 1 to 64 ports
pub route_path : (network : DeclaredNetwork) (i listener : ℕ) → IsNetwork network → i < length network.streams
    → listener ≤ length (sender_at network i).branches → IsPath (route_to (sender_at network i) listener)
route_path network i listener net h within =
    (sender_keeps network i net (stream_within network i h)).routes listener []
    (is_listener (sender_at network i) listener within)

-- which are ports of the topology, of a stream's routes as of a flow's,
pub route_ports : (network : DeclaredNetwork) (i leg : ℕ) → IsNetwork network → i < length (senders_of network)
    → leg < listener_count (sender_at network i)
    → All (λ (p : ℕ). p < length network.topology.ports) (route_to (sender_at network i) leg)
route_ports network i leg net h within =
    each_on_routes (λ (p : ℕ). p < length network.topology.ports) (sender_at network i).ports
    (sender_at network i).branches (sender_keeps network i net h).ports leg [] within

-- and ports of the sender
pub on_route : (s : Sender) (listener hop d : ℕ) → listener ≤ length s.branches
    → hop < length (route_to s listener) → uses (get_or (route_to s listener) hop d) s ≡ true
on_route s listener hop d there within =
    each_on_routes (λ (p : ℕ). uses p s ≡ true) s.ports s.branches own listener [] (is_listener s listener there) hop d
    within
  where
    own : All (λ (p : ℕ). uses p s ≡ true) s.ports
    own k e inside = list_any_at (λ (p : ℕ). eqb p (get_or s.ports k e)) s.ports k e inside
        (eq-eqb (get_or s.ports k e) (get_or s.ports k e) refl)

-- so where these are its ports
pub on_this : (s : Sender) (listener hop : ℕ) (ports : List ℕ) → ports ≡ route_to s listener
    → listener ≤ length s.branches → hop < length ports → uses (get_or ports hop 0) s ≡ true
on_this s listener hop ports is there within =
    subst (λ (l : List ℕ). uses (get_or l hop 0) s ≡ true) (sym is)
    (on_route s listener hop 0 there (omega (arith, within, ap (λ (l : List ℕ). length l) is)))
