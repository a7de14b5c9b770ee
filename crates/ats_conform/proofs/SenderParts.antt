use Rattle.std.proofs.Common.{◌≡◌, ℕ, ◌-◌, ◌<◌, ◌≤◌, length, map, get_or, ◌∙◌, arith}
use Rattle.std.proofs.lemmas.List.{get_or-map, length-map, get_or_append_left, get_or-append_right, length-append}
use Rattle.ats_streams.specs.Stream.{DeclaredStream}
use Rattle.ats_streams.specs.Flow.{DeclaredFlow}
use Rattle.ats_network.specs.Sender.{stream_sender, flow_sender}
use Rattle.ats_network.specs.Network.{DeclaredNetwork, senders_of}
use Rattle.ats_network.specs.Senders.{sender_at, no_sender}

-- the first senders are the streams
pub stream-at : (network : DeclaredNetwork) (i : ℕ) (d : DeclaredStream) → i < length network.streams
    → sender_at network i ≡ stream_sender (get_or network.streams i d)
stream-at network i d h =
    get_or_append_left (map stream_sender network.streams) (map flow_sender network.flows) no_sender i
    (omega (arith, length-map network.streams stream_sender))
    ∙ get_or-map stream_sender network.streams i d no_sender h

-- the others are the flows
pub flow-at : (network : DeclaredNetwork) (i : ℕ) (d : DeclaredFlow) → length network.streams ≤ i
    → i < length (senders_of network)
    → sender_at network i ≡ flow_sender (get_or network.flows (i - length network.streams) d)
flow-at network i d past h =
    get_or-append_right (map stream_sender network.streams) (map flow_sender network.flows) (length network.streams) i
    no_sender (length-map network.streams stream_sender) past
    ∙ get_or-map flow_sender network.flows (i - length network.streams) d no_sender (some network i past h)
  where
    some : (network : DeclaredNetwork) (i : ℕ) → length network.streams ≤ i → i < length (senders_of network)
        → i - length network.streams < length network.flows
    some network i past h = omega (
      arith,
      length-append (map stream_sender network.streams) (map flow_sender network.flows),
      length-map network.streams stream_sender,
      length-map network.flows flow_sender,
    )
