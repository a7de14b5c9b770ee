use Rattle.std.proofs.Common.{◌≡◌, ℕ, ◌<◌, ◌≤◌, [], None, length, map, get_or, ap, ◌∙◌, subst, sym, arith}
use Rattle.std.proofs.Common.{length-append}
use Rattle.std.proofs.lemmas.List.{get_or-map, length-map, get_or_append_left}
use Rattle.std.proofs.lemmas.List.Sums.{get_or-le-sum_by}
use Rattle.ats_streams.specs.Stream.{DeclaredStream, declared_stream}
use Rattle.ats_streams.specs.Traffic.{IsRuled}
use Rattle.ats_network.specs.Sender.{Sender, stream_sender, flow_sender, declared_of}
use Rattle.ats_network.specs.Network.{DeclaredNetwork, IsNetwork, senders_of}
use Rattle.ats_network.specs.Senders.{sender_at, no_sender}
use Rattle.ats_trace.specs.Eligibility.{declared_by}

-- the first senders are the streams
pub stream-at : (network : DeclaredNetwork) (i : ℕ) (d : DeclaredStream) → i < length network.streams
    → sender_at network i ≡ stream_sender (get_or network.streams i d)
stream-at network i d h =
    get_or_append_left (map stream_sender network.streams) (map flow_sender network.flows) no_sender i
    (omega (arith, length-map network.streams stream_sender))
    ∙ get_or-map stream_sender network.streams i d no_sender h

-- each stream is one of the senders
pub stream-within : (network : DeclaredNetwork) (i : ℕ) → i < length network.streams → i < length (senders_of network)
stream-within network i h =
    omega (
      arith,
      h,
      length-append (map stream_sender network.streams) (map flow_sender network.flows),
      length-map network.streams stream_sender,
    )

-- for numbers past the last stream
no_stream : DeclaredStream
no_stream = declared_stream [] [] [] 0 0 0 0 0 None

-- what the streams declare keeps the rules of streams
pub streams-ruled : (network : DeclaredNetwork) → IsNetwork network → (i : ℕ) → i < length network.streams
    → IsRuled (declared_by network i)
streams-ruled network keeps i h =
    let Ruled : Sender → Type 0 = λ s. IsRuled (declared_of s) in
    subst Ruled (sym (stream-at network i no_stream h)) (keeps.streams i no_stream h).rules

-- a stream has no more ports than all streams may have
pub stream-ports : (network : DeclaredNetwork) → IsNetwork network → (i : ℕ) → i < length network.streams
    → length (sender_at network i).ports ≤ 65536
stream-ports network keeps i h =
    omega (
      arith,
      ap (λ (s : Sender). length s.ports) (stream-at network i no_stream h),
      get_or-le-sum_by (λ (s : DeclaredStream). length s.ports) network.streams i no_stream h,
      keeps.few_ports,
    )
