use Rattle.std.specs.Prelude.{◌≡◌, ℕ, ◌<◌, ◌==◌, IsTrue, List, [], ◌∷◌, length, map, filter, All}
use Rattle.ats_num.specs.Wire.{bits_of}
use Rattle.ats_topology.specs.Port.{port_at}
use Rattle.ats_topology.specs.declared.port.Port.{Port}
use Rattle.ats_network.specs.Network.{DeclaredNetwork, senders_of}
use Rattle.ats_bucket.specs.Conforming.{Frame}
use Rattle.ats_group.specs.Judge.{bucket_rule}
use Rattle.ats_streams.specs.Traffic.{is_declared_size}
use Rattle.ats_streams.specs.declared.traffic.Declared.{Declared}
use Rattle.ats_network.specs.Senders.{sender_at}
use Rattle.ats_trace.specs.Eligibility.{declared_by}
use Rattle.ats_trace.specs.declared.journey.Release.{Release}

-- the node that the first of these ports leaves
abbrev pub start_of : List Port → List ℕ → ℕ
start_of ports [] = 0
start_of ports (p ∷ path) = (port_at ports p).from

-- the talker of a sender, a station or a bridge: the node at which its routes begin; its first port is that of its
-- trunk
abbrev pub talker_of : DeclaredNetwork → ℕ → ℕ
talker_of network i = start_of network.topology.ports (sender_at network i).ports

-- a release as a token bucket counts it
abbrev pub frame_of : Release → Frame
frame_of r = record { at = r.at.0; bits = bits_of r.octets }

-- the releases of a sender as a token bucket counts them, in order
abbrev pub frames_of : ℕ → List Release → List Frame
frames_of i releases = map frame_of (filter (λ (r : Release). r.sender == i) releases)

-- a release has a size that its sender declares
abbrev pub IsDeclaredSize : DeclaredNetwork → Release → Type 0
IsDeclaredSize network r = IsTrue (is_declared_size (declared_by network r.sender) r.octets)

-- a node keeps a rule: what each stream declares that begins there, and its releases, are as the rule says, and each
-- release of a stream or flow that begins there has a declared size. So a node at which no route begins keeps each
-- rule, whatever is released
pub record KeepsBucketsBy (rule : Declared → List Frame → Type 0) (network : DeclaredNetwork) (releases : List Release)
    (node : ℕ) : Type 0 where
  pub streams : (i : ℕ) → i < length network.streams → talker_of network i ≡ node
      → rule (declared_by network i) (frames_of i releases)
  pub sizes : All (λ (r : Release). r.sender < length (senders_of network) → talker_of network r.sender ≡ node
      → IsDeclaredSize network r) releases

-- a node keeps its buckets
abbrev pub KeepsBuckets : DeclaredNetwork → List Release → ℕ → Type 0
KeepsBuckets network releases node = KeepsBucketsBy bucket_rule network releases node

-- releases at the times that a clock shows
abbrev pub read_by : (ℕ → ℕ) → List Release → List Release
read_by shows releases =
    map (λ (r : Release). record r { at = record { 0 = shows r.at.0 } }) releases
