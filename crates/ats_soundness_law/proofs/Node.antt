-- What a node that keeps its buckets is asked to send, a station or a bridge.
use Rattle.std.proofs.Common.{◌≡◌, ℕ, ◌<◌, List, [], length, subst, sym, inl, inr, arith}
use Rattle.std.proofs.lemmas.Bool.{cases_Bool, cases_eq}
use Rattle.ats_topology.specs.Port.{port_at}
use Rattle.ats_network.specs.Bridges.{IsBridgeAt}
use Rattle.ats_network.specs.Network.{DeclaredNetwork, senders_of}
use Rattle.ats_network.specs.Sender.{Sender}
use Rattle.ats_network.specs.Senders.{sender_at}
use Rattle.ats_bucket.specs.Conforming.{Frame}
use Rattle.ats_certificate.specs.PortSums.{uses}
use Rattle.ats_streams.specs.declared.traffic.Declared.{Declared}
use Rattle.ats_group.specs.Judge.{Judge}
use Rattle.ats_trace.specs.Eligibility.{declared_by}
use Rattle.ats_trace.specs.Journey.{Travel}
use Rattle.ats_trace.specs.Projections.{sent_by}
use Rattle.ats_trace.specs.Run.{releases_of}
use Rattle.ats_trace.specs.Talker.{talker_of, frames_of, KeepsBucketsBy}
use Rattle.ats_trace.specs.declared.journey.Release.{Release}
use Rattle.ats_soundness_law.specs.Sound.{BeginAtStations, BridgesKeep}
use Rattle.ats_port_law.specs.PortLaw.{frame_of}
use Rattle.ats_soundness_law.proofs.Bits.{sent_of, sum_by-map}
use Rattle.ats_soundness_law.proofs.Journeys.{StandsAt, stands_at}
use Rattle.ats_soundness_law.proofs.Known.{CaseBy, case_of}
use Rattle.ats_soundness_law.proofs.LetThrough.{group_kept, none_weight}
use Rattle.ats_soundness_law.proofs.Lifts.{run_hops_by}
use Rattle.ats_soundness_law.proofs.Offered.{DeclaredAt, Kept, IsFed, fed}
use Rattle.ats_soundness_law.proofs.OwnFrames.{own_weight}
use Rattle.ats_soundness_law.proofs.Paths.{not_both, sender_is}
use Rattle.ats_soundness_law.proofs.Sized.{IsSized, sized}
use Rattle.ats_soundness_law.proofs.Sizes.{Paced, journey_declared, paced}
use Rattle.ats_soundness_law.proofs.Streams.{stream_exists, stream_ruled}
use Rattle.ats_soundness_law.proofs.Wider.{declared_to_committed}

-- a stream that begins elsewhere: what the groups of the node let through of it
passed_kept : {judge : Judge} {rule : Declared → List Frame → Type 0} (network : DeclaredNetwork)
    (run : List Travel) (port : ℕ) → CaseBy judge rule network run → (i : ℕ) → i < length network.streams
    → (talker_of network i ≡ (port_at network.topology.ports port).from → ⊥) → Kept rule network run port i
passed_kept {judge} {rule} network run port c i h elsewhere =
    let s : Sender = sender_at network i in
    elim (cases_Bool (uses port s)) as (λ _. Kept rule network run port i) [
      | inl used ↦ (
          let stands : StandsAt s port =
          stands_at s port (sender_is network c.net i (stream_exists network i h)).branches used in
          group_kept network run port c i h elsewhere stands.leg stands.hop stands.at)
      | inr unused ↦ record {
        others = [];
        keeps = declared_to_committed network port i [] c.rules c.net
            (c.regulator.keeps (declared_by network) 0 [] i (stream_ruled network c.net i h));
        no_more = λ weight. (
            let none = none_weight network run i port (λ n. weight) (case_of c) unused in
            omega (arith, none, sum_by-map frame_of weight (sent_of i (sent_by network run port))));
      }
    ]

-- and one that begins there: its releases
stream_kept : {judge : Judge} {rule : Declared → List Frame → Type 0} (network : DeclaredNetwork)
    (run : List Travel) (port : ℕ) → CaseBy judge rule network run
    → KeepsBucketsBy rule network (releases_of run) (port_at network.topology.ports port).from
    → (i : ℕ) → i < length network.streams → Kept rule network run port i
stream_kept {judge} {rule} network run port c keeps i h =
    elim (cases_eq (talker_of network i) (port_at network.topology.ports port).from) as
    (λ _. Kept rule network run port i) [
      | inl begins ↦ record {
        others = frames_of i (releases_of run);
        keeps = declared_to_committed network port i (frames_of i (releases_of run)) c.rules c.net
            (keeps.streams i h begins);
        no_more = λ weight. (
            let own = own_weight network run i port (λ n. weight) weight (case_of c) begins
            (λ n d h same. omega arith) in
            omega (arith, own, sum_by-map frame_of weight (sent_of i (sent_by network run port))));
      }
      | inr elsewhere ↦ passed_kept network run port c i h elsewhere
    ]

pub port_fed : {judge : Judge} {rule : Declared → List Frame → Type 0} (network : DeclaredNetwork)
    (run : List Travel) (port : ℕ) → CaseBy judge rule network run
    → KeepsBucketsBy rule network (releases_of run) (port_at network.topology.ports port).from
    → IsFed rule network run port
port_fed network run port c keeps =
    let from : ℕ = (port_at network.topology.ports port).from in
    fed network run port c
    (run_hops_by (Paced network from) (IsSized network) (DeclaredAt network port) network 0 run
    (journey_declared network run port (case_of c)) (paced network run from (case_of c) keeps.sizes)
    (sized network run c))
    (stream_kept network run port c keeps)

-- where all routes begin at stations, each bridge keeps its buckets whatever is released
pub bridge_keeps : (rule : Declared → List Frame → Type 0) (network : DeclaredNetwork) (releases : List Release)
    (node : ℕ) → BeginAtStations network → IsBridgeAt network.topology node
    → KeepsBucketsBy rule network releases node
bridge_keeps rule network releases node stations bridge = record {
  streams = λ i h begins.
      none i (stream_exists network i h) begins (rule (declared_by network i) (frames_of i releases));
  sizes = λ k d h within begins. none _ within begins _;
}
  where
    none : (i : ℕ) → i < length (senders_of network) → talker_of network i ≡ node → (P : Type 0) → P
    none i within begins P = not_both network.topology (talker_of network i) (stations i within)
        (subst (IsBridgeAt network.topology) (sym begins) bridge) P

pub bridges_keep : (rule : Declared → List Frame → Type 0) (network : DeclaredNetwork) (releases : List Release)
    (path : List ℕ) → BeginAtStations network → BridgesKeep rule network releases path
bridges_keep rule network releases path stations k d h bridge = bridge_keeps rule network releases _ stations bridge
