-- What is told of the scheduler behind a port.
use Rattle.std.proofs.Common.{◌≡◌, ℕ, ◌+◌, ◌*◌, ◌/◌, ◌<◌, ◌≤◌, Bool, List, get_or, length, map, Some, None, cond, sym}
use Rattle.std.proofs.Common.{ap, subst}
use Rattle.std.proofs.Common.{◌∙◌, arith}
use Rattle.std.specs.Prelude.{unwrap_or}
use Rattle.std.proofs.lemmas.Bool.{lt-ltb}
use Rattle.std.proofs.lemmas.List.{get_or-map, get_or_append_left, length-map}
use Rattle.std.proofs.lemmas.List.FromFn.{get_or-map-range_with_len}
use Rattle.std.proofs.lemmas.Nat.{div-mul-add}
use Rattle.ats_streams.specs.Stream.{DeclaredStream}
use Rattle.ats_network.specs.Class.{class_at}
use Rattle.ats_network.specs.Network.{DeclaredNetwork, IsNetwork, senders_of}
use Rattle.ats_network.specs.Rates.{IsRated, scheduled_at}
use Rattle.ats_network.specs.Residence.{residence_after}
use Rattle.ats_network.specs.Sender.{Sender, stream_sender, flow_sender}
use Rattle.ats_network.specs.Senders.{IsSender, sender_at, no_sender}
use Rattle.ats_network.proofs.ClassLemmas.{class_at-le}
use Rattle.ats_network.proofs.SenderLemmas.{sender_keeps}
use Rattle.ats_schedulers.specs.Schedulers as schedulers
use Rattle.ats_schedulers.specs.Schedulers.{group_behind, member_behind, residences_of}
use Rattle.ats_schedulers.proofs.Places.{no_stream}
use Rattle.ats_settings.specs.Settings.{port_at_place, scheduler_behind, shaping_of}

-- the maximum residence time of the group behind a port for a class is that of the bridge to which the port leads
pub residence_behind : (network : DeclaredNetwork) (port class : ℕ) → port < length network.topology.ports → class ≤ 7
    → get_or (residences_of network) (group_behind port class) 0 ≡ unwrap_or (residence_after network.topology port) 0
residence_behind network port class below few =
    let within : group_behind port class < 8 * length network.topology.ports = omega (arith, below, few) in
    let whole : (8 * port + class) / 8 ≡ port =
    ap (λ (n : ℕ). n / 8) (omega arith) ∙ div-mul-add port 8 class (omega (arith, few)) in
    get_or-map-range_with_len (schedulers.residence_of network) 0 (8 * length network.topology.ports)
    (group_behind port class) (group_behind port class) 0 within (omega arith)
    ∙ ap (λ (p : ℕ). unwrap_or (residence_after network.topology p) 0) whole

-- a stream among the senders
pub sender_read : (network : DeclaredNetwork) (stream : ℕ) (d : DeclaredStream) → stream < length network.streams
    → sender_at network stream ≡ stream_sender (get_or network.streams stream d)
sender_read network stream d within =
    let senders : List Sender = map stream_sender network.streams in
    get_or_append_left senders (map flow_sender network.flows) no_sender stream
    (omega (arith, within, length-map network.streams stream_sender))
    ∙ get_or-map stream_sender network.streams stream d no_sender within

-- a stream that was looked up
pub looked_up : (network : DeclaredNetwork) (streams : List DeclaredStream) (i : ℕ) (s : DeclaredStream)
    → streams ≡ network.streams → i < length network.streams → s ≡ get_or streams i s
    → sender_at network i ≡ stream_sender s
looked_up network streams i s all within is =
    sender_read network i s within
    ∙ ap stream_sender (sym (is ∙ ap (λ (l : List DeclaredStream). get_or l i s) all))

-- a stream's rates and bursts at the port at a place are within the limits of a scheduler
pub rated_at : (network : DeclaredNetwork) (stream place : ℕ) → IsNetwork network → stream < length network.streams
    → place < length (sender_at network stream).ports
    → IsRated network.topology (sender_at network stream) (port_at_place network stream place)
rated_at network stream place is within below =
    let same : sender_at network stream ≡ stream_sender (get_or network.streams stream no_stream) =
    sender_read network stream no_stream within in
    subst (λ (s : Sender). IsRated network.topology s (get_or s.ports place 0)) (sym same)
    (is.rates stream no_stream within place 0 (subst (λ (s : Sender). place < length s.ports) same below))

-- what is told of a stream's scheduler, where its parts are given under other names
pub scheduler_made : (network : DeclaredNetwork) (sender port rate burst residence : ℕ) → IsNetwork network
    → sender < length network.streams → sender < length (senders_of network) → port < length network.topology.ports
    → rate ≡ (scheduled_at network.topology port (sender_at network sender)).rate
    → burst ≡ (scheduled_at network.topology port (sender_at network sender)).burst_bits
    → residence ≡ unwrap_or (residence_after network.topology port) 0
    → Some (record { rate_bps = rate; burst_bits = burst; residence_ns = residence })
    ≡ scheduler_behind network sender port
scheduler_made network sender port rate burst residence is stream exists below r b behind =
    let s : Sender = sender_at network sender in
    let keeps : IsSender network.topology s = sender_keeps network sender is exists in
    let there : residence ≡ get_or (residences_of network) (group_behind port (class_at s port)) 0 =
    behind ∙ sym (residence_behind network port (class_at s port) below (class_at-le s port keeps.classes)) in
    rw (r, b, there)
    (sym (ap (λ (t : Bool). cond t (Some (shaping_of network (member_behind network.topology s port))) None)
    (lt-ltb sender (length network.streams) stream)))
