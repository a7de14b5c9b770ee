use Rattle.std.proofs.Common.{ℕ, ◌+◌, ◌<◌, ◌≤◌, Bool, true, false, cond, List, [], ◌∷◌, ◌++◌, length, map, take}
use Rattle.std.proofs.Common.{get_or, sym, subst, arith, length-append}
use Rattle.std.specs.List.{All}
use Rattle.std.proofs.lemmas.List.{append-nil, length-map, length-take}
use Rattle.std.proofs.lemmas.List.Elements.{All-append, All-map, All-take}
use Rattle.std.proofs.lemmas.List.Sums.{get_or-le-sum_by}
use Rattle.ats_streams.specs.Flow.{DeclaredFlow, IsFlow}
use Rattle.ats_streams.specs.Path.{IsPath}
use Rattle.ats_streams.specs.Stream.{DeclaredStream}
use Rattle.ats_network.specs.Sender.{Sender, stream_sender, flow_sender}
use Rattle.ats_network.specs.Class.{PortSender, seen_at}
use Rattle.ats_network.specs.Network.{DeclaredNetwork, IsNetwork, ports_together, senders_of}
use Rattle.ats_network.specs.Senders.{IsSender, sender_at, no_sender}
use Rattle.ats_network.proofs.SenderLemmas.{each_is_sender}
use Rattle.ats_certificate.specs.PortSums.{uses, senders_at}
use Rattle.ats_tally.specs.Tally.{tally_with, IsTally, IsWithin}
use Rattle.ats_tally.specs.declared.tally.Tally.{Tally}
use Rattle.ats_tally.specs.declared.tally.TheConstants.{MAX_SENDERS}
use Rattle.ats_tally.proofs.SeenLemmas.{all_seen, few_at, senders_at-more}
use Rattle.ats_tally.proofs.Tallied.{tally_more, tally_within}

-- a network has so many senders at most
pub few_senders : (network : DeclaredNetwork) → IsNetwork network → length (senders_of network) ≤ MAX_SENDERS
few_senders network is =
    let streams : List Sender = map stream_sender network.streams in
    let flows : List Sender = map flow_sender network.flows in
    omega (
      arith,
      length-append streams flows,
      length-map network.streams stream_sender,
      length-map network.flows flow_sender,
      is.few_streams,
      is.few_flows,
    )

-- what the first senders of a network, of those that use a port, make of a class
pub first_within : (network : DeclaredNetwork) (port class i : ℕ) (tally : Tally) → IsNetwork network → 1 ≤ class
    → IsTally class (senders_at network.topology port (take i (senders_of network))) tally → IsWithin MAX_SENDERS tally
first_within network port class i tally is shaped h =
    let first : List Sender = take i (senders_of network) in
    tally_within class (senders_at network.topology port first) tally shaped
    (all_seen network.topology port first
    (All-take (IsSender network.topology) i (senders_of network) (each_is_sender network is)))
    (omega (arith, few_at network.topology port first, length-take i (senders_of network), few_senders network is)) h

-- and what all of them make of it
pub all_within : (network : DeclaredNetwork) (port class : ℕ) (tally : Tally) → IsNetwork network → 1 ≤ class
    → IsTally class (senders_at network.topology port (senders_of network)) tally → IsWithin MAX_SENDERS tally
all_within network port class tally is shaped h =
    tally_within class (senders_at network.topology port (senders_of network)) tally shaped
    (all_seen network.topology port (senders_of network) (each_is_sender network is))
    (omega (arith, few_at network.topology port (senders_of network), few_senders network is)) h

-- a sender that uses the port is counted next, and one that does not is left out
pub count_more : (network : DeclaredNetwork) (port class i : ℕ) (tally : Tally) → i < length (senders_of network)
    → IsTally class (senders_at network.topology port (take i (senders_of network))) tally
    → IsTally class (senders_at network.topology port (take (i + 1) (senders_of network)))
    (cond (uses port (sender_at network i))
    (tally_with class (seen_at network.topology port (sender_at network i)) tally) tally)
count_more network port class i tally within h =
    let senders : List PortSender = senders_at network.topology port (take i (senders_of network)) in
    let seen : PortSender = seen_at network.topology port (sender_at network i) in
    let used : Bool = uses port (sender_at network i) in
    subst (λ (ss : List PortSender). IsTally class ss (cond used (tally_with class seen tally) tally))
    (sym (senders_at-more network.topology port (senders_of network) i no_sender within)) (by senders seen used h)
  where
    by : (senders : List PortSender) (seen : PortSender) (b : Bool) → IsTally class senders tally
        → IsTally class (senders ++ cond b (seen ∷ []) []) (cond b (tally_with class seen tally) tally)
    by senders seen true h = tally_more class senders tally seen h
    by senders seen false h =
        subst (λ (ss : List PortSender). IsTally class ss tally) (sym (append-nil senders)) h

-- a sender has no more ports than streams may have together
streams_few : (streams : List DeclaredStream) → ports_together streams ≤ 65536
    → All (λ (s : Sender). length s.ports ≤ 65536) (map stream_sender streams)
streams_few streams few =
    All-map (λ (s : Sender). length s.ports ≤ 65536) stream_sender streams
    (λ k d h. (let mine : length (get_or streams k d).ports ≤ ports_together streams =
    get_or-le-sum_by (λ (s : DeclaredStream). length s.ports) streams k d h in omega (arith, mine, few)))

flows_few : (flows : List DeclaredFlow) → All IsFlow flows
    → All (λ (s : Sender). length s.ports ≤ 65536) (map flow_sender flows)
flows_few flows keep =
    All-map (λ (s : Sender). length s.ports ≤ 65536) flow_sender flows
    (λ k d h. (let path : IsPath (get_or flows k d).path = (keep k d h).path in omega (arith, path.most)))

pub few_ports : (network : DeclaredNetwork) (n : ℕ) → IsNetwork network → n < length (senders_of network)
    → length (sender_at network n).ports ≤ 65536
few_ports network n is within =
    All-append (λ (s : Sender). length s.ports ≤ 65536) (map stream_sender network.streams)
    (map flow_sender network.flows) (streams_few network.streams is.few_ports) (flows_few network.flows is.flows)
    n no_sender within
