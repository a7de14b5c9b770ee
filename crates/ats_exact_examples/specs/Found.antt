use Rattle.std.specs.Prelude.{◌≡◌, ◌↔◌, ℕ, ◌<◌, IsTrue, List, [], ◌∷◌, length, codes, Option, Some, None}
use Rattle.ats_num.specs.Name.{is_name}
use Rattle.ats_topology.specs.Node.{is_station}
use Rattle.ats_topology.specs.Topology.{DeclaredTopology, node_at, station_named}
use Rattle.ats_streams.specs.Stream.{DeclaredStream, branching_stream}
use Rattle.ats_network.specs.Network.{AreIdentified, DeclaredNetwork, long_network, senders_of}
use Rattle.ats_network.specs.Pushes.{place_identified}
use Rattle.ats_network.specs.Senders.{sender_at}
use Rattle.ats_port_names.specs.PortName.{port_named}
use Rattle.ats_port_capture.specs.Frame.{identity_of}
use Rattle.ats_trace.specs.Talker.{talker_of}
use Rattle.ats_capture.specs.Traffic.{stream_of}
use Rattle.ats_schedule.specs.Reading.{sender_named}
use Rattle.ats_command_input.specs.Stream.{stream_named}
use Rattle.ats_tree_examples.specs.Networks.{branch, split_topology}
use Rattle.ats_exact_examples.specs.Named.{IsNodeNamed, IsPortNamed, IsStreamIdentified, IsStreamNamed}

-- What is there is found: the other half of `NamesAreExact` and `IdentitiesAreExact`.

-- the first number of which this is so
pub record IsFirst (So : ℕ → Type 0) (n : ℕ) : Type 0 where
  pub so : So n
  pub none_before : (m : ℕ) → m < n → ¬ So m

-- what is found is the first number of which this is so, and nothing only where it is so of none
pub record FindsFirst (found : Option ℕ) (So : ℕ → Type 0) : Type 0 where
  pub one : (n : ℕ) → (found ≡ Some n) ↔ IsFirst So n
  pub none : (found ≡ None) ↔ ((n : ℕ) → ¬ So n)

-- a word is a name, and the first node that is called so is a station
pub record IsStationNamed (topology : DeclaredTopology) (word : List ℕ) (n : ℕ) : Type 0 where
  pub name : IsTrue (is_name word)
  pub first : IsFirst (IsNodeNamed topology word) n
  pub station : IsTrue (is_station (node_at topology.nodes n).kind)

-- the stream or flow with a number has this name
pub record IsSenderCalled (network : DeclaredNetwork) (word : List ℕ) (n : ℕ) : Type 0 where
  pub there : n < length (senders_of network)
  pub so : (sender_at network n).name ≡ word

-- a word is a name, and this is the first stream or flow that is called so
pub record IsSenderNamed (network : DeclaredNetwork) (word : List ℕ) (n : ℕ) : Type 0 where
  pub name : IsTrue (is_name word)
  pub first : IsFirst (IsSenderCalled network word) n

-- streams, ports and stations that words name, in any list and any topology, and the stream or flow that a record of a
-- schedule names, in any network. Refuses a search that ends after 16 streams, or passes over those with many ports,
-- and a record that may name a sender by its number, or by a part of its name
pub record NamesAreFound : Type 0 where
  pub stream : (streams : List DeclaredStream) (word : List ℕ)
      → FindsFirst (stream_named streams word) (IsStreamNamed streams word)
  pub port : (topology : DeclaredTopology) (text : List ℕ)
      → FindsFirst (port_named topology text) (IsPortNamed topology text)
  pub station : (topology : DeclaredTopology) (word : List ℕ) (n : ℕ)
      → (station_named topology word ≡ Some n) ↔ IsStationNamed topology word n
  pub sender : (network : DeclaredNetwork) (word : List ℕ) (n : ℕ)
      → (sender_named network word ≡ Some n) ↔ IsSenderNamed network word n

-- the first stream that declares an identity begins at the station
pub record IsFirstBegun (network : DeclaredNetwork) (station : ℕ) (identity : ℕ × ℕ) (n : ℕ) : Type 0 where
  pub first : IsFirst (IsStreamIdentified network.streams identity) n
  pub begins : talker_of network n ≡ station

-- a stream from s1 to s2 and to s3 with an identity: its copies leave the bridge for s3
abbrev pub branching : DeclaredNetwork
branching = long_network split_topology
    (branching_stream (codes "a") (0 ∷ 2 ∷ 4 ∷ []) (branch 2 0 1 ∷ []) (6 ∷ 6 ∷ 6 ∷ []) 100000000 12336 64 1522 1000000
    (Some (0x020000000001, 1)) ∷ [])
    []

-- the streams to which the records of a capture belong: where no two streams have one identity, to the one that
-- declares it, if that begins at the station. Refuses a station's streams without their branches
pub record RecordsBelong : Type 0 where
  pub by_first : (network : DeclaredNetwork) (station : ℕ) (identity : ℕ × ℕ) (n : ℕ)
      → (stream_of network station (Some identity) ≡ Some n) ↔ IsFirstBegun network station identity n
  pub declared : (network : DeclaredNetwork) (identity : ℕ × ℕ) (n : ℕ) → AreIdentified network.streams
      → IsStreamIdentified network.streams identity n
      → stream_of network (talker_of network n) (Some identity) ≡ Some n
  pub of_none : (network : DeclaredNetwork) (station : ℕ) → stream_of network station None ≡ None
  pub branched : stream_of branching 0 (Some (0x020000000001, 1)) ≡ Some 0

-- streams that a destination address and a VLAN identifier name, in any list; what senders declare, in any network; and
-- to which stream a record belongs
pub record IdentitiesAreFound : Type 0 where
  pub stream : (streams : List DeclaredStream) (identity : ℕ × ℕ)
      → FindsFirst (place_identified identity streams) (IsStreamIdentified streams identity)
  pub sender : (network : DeclaredNetwork) (n : ℕ) (identity : ℕ × ℕ)
      → (identity_of network n ≡ Some identity) ↔ IsStreamIdentified network.streams identity n
  pub captured : RecordsBelong
