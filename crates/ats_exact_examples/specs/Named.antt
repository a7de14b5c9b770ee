use Rattle.std.specs.Prelude.{◌≡◌, ℕ, ◌<◌, List, length, slice_index_or, Some}
use Rattle.ats_topology.specs.Topology.{DeclaredTopology, node_at, station_named}
use Rattle.ats_streams.specs.Stream.{DeclaredStream}
use Rattle.ats_network.specs.Network.{DeclaredNetwork}
use Rattle.ats_network.specs.Edits.{no_stream}
use Rattle.ats_network.specs.Pushes.{place_identified}
use Rattle.ats_port_capture.specs.Frame.{identity_of}
use Rattle.ats_port_names.specs.PortName.{port_name, port_named}
use Rattle.ats_command_input.specs.Stream.{stream_named}

-- What a word names is called just so, and is there.

-- the stream with a number has this name
pub record IsStreamNamed (streams : List DeclaredStream) (word : List ℕ) (n : ℕ) : Type 0 where
  pub there : n < length streams
  pub so : (slice_index_or streams n no_stream).name ≡ word

-- the stream with a number declares this destination address and VLAN identifier
pub record IsStreamIdentified (streams : List DeclaredStream) (identity : ℕ × ℕ) (n : ℕ) : Type 0 where
  pub there : n < length streams
  pub so : (slice_index_or streams n no_stream).identity ≡ Some identity

-- the port with a number is written so
pub record IsPortNamed (topology : DeclaredTopology) (text : List ℕ) (p : ℕ) : Type 0 where
  pub there : p < length topology.ports
  pub so : port_name topology p ≡ text

-- the node with a number has this name
pub record IsNodeNamed (topology : DeclaredTopology) (word : List ℕ) (n : ℕ) : Type 0 where
  pub there : n < length topology.nodes
  pub so : (node_at topology.nodes n).name ≡ word

-- streams, ports and stations that words name, in any list and any topology. Refuses `ba` for `b`, and `s1>b1 ` for
-- `s1>b1`
pub record NamesAreExact : Type 0 where
  pub stream : (streams : List DeclaredStream) (word : List ℕ) (n : ℕ) → stream_named streams word ≡ Some n
      → IsStreamNamed streams word n
  pub port : (topology : DeclaredTopology) (text : List ℕ) (p : ℕ) → port_named topology text ≡ Some p
      → IsPortNamed topology text p
  pub station : (topology : DeclaredTopology) (word : List ℕ) (n : ℕ) → station_named topology word ≡ Some n
      → IsNodeNamed topology word n

-- streams that a destination address and a VLAN identifier name, in any list, and those that senders declare, in any
-- network: streams without any have numbers too
pub record IdentitiesAreExact : Type 0 where
  pub stream : (streams : List DeclaredStream) (identity : ℕ × ℕ) (n : ℕ)
      → place_identified identity streams ≡ Some n → IsStreamIdentified streams identity n
  pub sender : (network : DeclaredNetwork) (n : ℕ) (identity : ℕ × ℕ) → identity_of network n ≡ Some identity
      → IsStreamIdentified network.streams identity n
