use Rattle.std.specs.Prelude.{◌≡◌, ℕ, ◌||◌, nat_lt, List, [], Some, None, find, remove}
use Rattle.std.specs.List.{list_any}
use Rattle.std.specs.Str.{bytes_eq}
use Rattle.ats_clock.specs.declared.committed.Committed.{Committed}
use Rattle.ats_streams.specs.Stream.{DeclaredStream}
use Rattle.ats_topology.specs.Topology.{DeclaredTopology}
use Rattle.ats_network.specs.Edits.{less_at, less_named, no_stream, stream_named, without_named}
use Rattle.ats_network.specs.Network.{DeclaredNetwork}
use Rattle.ats_network.specs.Rates.{committed_at, declared_with, is_overrated, scheduled_at}
use Rattle.ats_network.specs.Sender.{Sender, declared_of}
use Rattle.ats_network.specs.Senders.{no_sender}

-- a sender declares its own rate, burst and sizes; and with a rate and a burst that are given, as a scheduler behind
-- one of its ports has them, it declares these and its own sizes
pub record DeclaredIsKnown : Type 0 where
  pub rate : (s : Sender) → (declared_of s).rate ≡ s.rate
  pub burst : (s : Sender) → (declared_of s).burst_bits ≡ s.burst_bits
  pub least : (s : Sender) → (declared_of s).min_octets ≡ s.min_octets
  pub greatest : (s : Sender) → (declared_of s).max_octets ≡ s.max_octets
  pub rate_there : (c : Committed) (s : Sender) → (declared_with c s).rate ≡ c.rate
  pub burst_there : (c : Committed) (s : Sender) → (declared_with c s).burst_bits ≡ c.burst_bits
  pub least_there : (c : Committed) (s : Sender) → (declared_with c s).min_octets ≡ s.min_octets
  pub greatest_there : (c : Committed) (s : Sender) → (declared_with c s).max_octets ≡ s.max_octets

-- a sender is over the limits where at one of its ports its rate there, or the one that its scheduler has behind it, is
-- over 100 Gbit/s, or one of the bursts is over a gigabit
pub record LimitsAreKnown : Type 0 where
  pub over : (topology : DeclaredTopology) (s : Sender) → is_overrated topology s
      ≡ list_any (λ port.
      (nat_lt 100000000000 (committed_at topology port s).rate
      || nat_lt 1000000000 (committed_at topology port s).burst_bits)
      || (nat_lt 100000000000 (scheduled_at topology port s).rate
      || nat_lt 1000000000 (scheduled_at topology port s).burst_bits)) s.ports

-- past the last number there is a sender without a name and without ports, whose frames have 64 octets, and a stream
-- that declares nothing
pub record AbsentAreKnown : Type 0 where
  pub sender : no_sender ≡ record {
    name = [];
    ports = [];
    branches = [];
    classes = [];
    rate = 0;
    burst_bits = 0;
    min_octets = 64;
    max_octets = 64;
  }
  pub stream : no_stream ≡ record {
    name = [];
    ports = [];
    branches = [];
    classes = [];
    rate = 0;
    burst_bits = 0;
    min_octets = 0;
    max_octets = 0;
    deadline_ns = 0;
    identity = None;
  }

-- the stream of a name is the first that has these bytes; where one is taken out by its place, the others stay, and
-- where there is no place, all do; and a network from which one is withdrawn by its name is otherwise as it was
pub record NamedAreKnown : Type 0 where
  pub named : (streams : List DeclaredStream) (name : List ℕ) → stream_named streams name
      ≡ find (λ (s : DeclaredStream). bytes_eq name s.name) streams
  pub stay : (streams : List DeclaredStream) → less_at None streams ≡ streams
  pub less : (n : ℕ) (streams : List DeclaredStream) → less_at (Some n) streams ≡ remove streams n
  pub without : (network : DeclaredNetwork) (name : List ℕ) → without_named network name
      ≡ record network { streams = less_named network.streams name }

pub record DeclarationsAreKnown : Type 0 where
  pub declarations : DeclaredIsKnown
  pub limits : LimitsAreKnown
  pub no_ones : AbsentAreKnown
  pub streams : NamedAreKnown
