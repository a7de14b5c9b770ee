use Rattle.std.specs.Prelude.{◌≡◌, ◌↔◌, ℕ, ◌+◌, ◌<◌, ◌≤◌, List, [], ◌∷◌, length, Contains}
use Rattle.ats_bucket.specs.Conforming.{Conforms, Frame}
use Rattle.ats_streams.specs.declared.traffic.Declared.{Declared}
use Rattle.ats_network.specs.Network.{DeclaredNetwork}
use Rattle.ats_network.specs.Senders.{sender_at}
use Rattle.ats_group.specs.Judge.{bucket_rule}
use Rattle.ats_lrq.specs.Judge.{KeepsSpacing, spacing_rule}
use Rattle.ats_trace.specs.Talker.{KeepsBuckets, KeepsBucketsBy, frames_of, talker_of}
use Rattle.ats_trace.specs.declared.journey.Release.{Release}
use Rattle.ats_verdict_examples.specs.Networks.{release}
use Rattle.ats_answer_examples.specs.Premises.{with_flow_over}

-- What is asked of a node that keeps its buckets, or its spacing: of the frames of its own streams and flows, and of no
-- others. A premise that asked for more would promise the same of less.

-- a frame of the stream, and one of the flow that is an octet longer than it declares
abbrev pub flow_is_long : List Release
flow_is_long = release 0 0 1522 ∷ release 0 1 1523 ∷ []

-- a node, a station or a bridge, answers for the sizes of its own flows alone; one at which no route begins for none.
-- Port 3 leads from s2, which is node 1, to the bridge, node 2, and port 2 from there. Refuses that the flows of all
-- nodes have to keep their sizes
pub record FlowsAreOwn (rule : Declared → List Frame → Type 0) : Type 0 where
  pub of_other : KeepsBucketsBy rule (with_flow_over 3) flow_is_long 0
  pub own : ¬ KeepsBucketsBy rule (with_flow_over 3) flow_is_long 1
  pub of_none : KeepsBucketsBy rule (with_flow_over 3) flow_is_long 2
  pub of_bridge : KeepsBucketsBy rule (with_flow_over 2) flow_is_long 0
  pub own_bridge : ¬ KeepsBucketsBy rule (with_flow_over 2) flow_is_long 2

-- the frames of each stream that begins at a node are as a rule says of what the stream declares, and each release of a
-- stream or flow that begins there has as many octets as this one declares
pub record AreOwnKept (rule : Declared → List Frame → Type 0) (network : DeclaredNetwork) (releases : List Release)
    (node : ℕ) : Type 0 where
  pub streams : (i : ℕ) → i < length network.streams → talker_of network i ≡ node
      → rule (record {
        rate = (sender_at network i).rate;
        burst_bits = (sender_at network i).burst_bits;
        min_octets = (sender_at network i).min_octets;
        max_octets = (sender_at network i).max_octets;
      }) (frames_of i releases)
  pub sizes : (r : Release) → Contains releases r → r.sender < length network.streams + length network.flows
      → talker_of network r.sender ≡ node
      → ((sender_at network r.sender).min_octets ≤ r.octets)
      × (r.octets ≤ (sender_at network r.sender).max_octets)

-- so much is asked of a node in any network, and no more: by `check`, that its streams conform to their rates and
-- bursts, and by `lrq check`, that they keep the spacing of their rates. Nothing else is asked of the times of releases
pub record KeepingIsMeant : Type 0 where
  pub flows : FlowsAreOwn bucket_rule
  pub flows_spaced : FlowsAreOwn spacing_rule
  pub buckets : (network : DeclaredNetwork) (releases : List Release) (node : ℕ)
      → KeepsBuckets network releases node
      ↔ AreOwnKept (λ declared frames. Conforms declared.rate declared.burst_bits frames) network releases node
  pub spacing : (network : DeclaredNetwork) (releases : List Release) (node : ℕ)
      → KeepsBucketsBy spacing_rule network releases node
      ↔ AreOwnKept (λ declared frames. KeepsSpacing declared.rate frames) network releases node
