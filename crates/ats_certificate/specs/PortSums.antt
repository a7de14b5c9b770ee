use Rattle.std.specs.Prelude.{ℕ, ◌*◌, Bool, ◌||◌, ◌==◌, nat_lt, min, max, List, [], ◌∷◌, map, filter, fold, sum_by}
use Rattle.std.specs.List.{list_any}
use Rattle.ats_num.specs.Wire.{bits_of}
use Rattle.ats_topology.specs.Port.{port_at}
use Rattle.ats_topology.specs.Topology.{DeclaredTopology}
use Rattle.ats_network.specs.Sender.{Sender, stream_sender}
use Rattle.ats_network.specs.Class.{PortSender, seen_at}
use Rattle.ats_network.specs.Network.{DeclaredNetwork, senders_of}

-- a sender has the port
abbrev pub uses : ℕ → Sender → Bool
uses port s = list_any (λ p. p == port) s.ports

-- a sender's class is above this one, is this one, or is below it
abbrev pub is_above : ℕ → PortSender → Bool
is_above class s = nat_lt class s.class

abbrev pub is_of : ℕ → PortSender → Bool
is_of class s = s.class == class

abbrev pub is_below : ℕ → PortSender → Bool
is_below class s = nat_lt s.class class

-- the wire bits of a sender's longest frame, and of its shortest
abbrev pub longest : PortSender → ℕ
longest s = bits_of s.max_octets

abbrev pub shortest : PortSender → ℕ
shortest s = bits_of s.min_octets

-- a sum over the senders that pass a test
abbrev pub sum_where : (PortSender → Bool) → (PortSender → ℕ) → List PortSender → ℕ
sum_where test amount senders = sum_by amount (filter test senders)

-- the greatest over the senders that pass a test; 0 where none does
abbrev pub greatest_where : (PortSender → Bool) → (PortSender → ℕ) → List PortSender → ℕ
greatest_where test amount senders = fold max 0 (map amount (filter test senders))

-- the least of numbers; 0 where there are none
abbrev pub least_of : List ℕ → ℕ
least_of [] = 0
least_of (n ∷ ns) = fold min n ns

-- the least over the senders that pass a test; 0 where none does
abbrev pub least_where : (PortSender → Bool) → (PortSender → ℕ) → List PortSender → ℕ
least_where test amount senders = least_of (map amount (filter test senders))

-- the senders that have the port, as it sees them: each once, however many listeners are behind
abbrev pub senders_at : DeclaredTopology → ℕ → List Sender → List PortSender
senders_at topology port senders = map (seen_at topology port) (filter (uses port) senders)

-- what the senders at a port make of a class. higher: the picoseconds of each second that the rates of the higher
-- classes take; equal: the same of the class itself; bursts: the bursts of both, in bits; lower: the wire bits of the
-- longest frame of a lower class or a flow, 0 where there is none; least: the wire bits of the shortest frame of the
-- class
pub record PortSums : Type 0 where
  pub higher : ℕ
  pub equal : ℕ
  pub bursts : ℕ
  pub lower : ℕ
  pub least : ℕ

-- these sums of senders at a port with so many picoseconds per bit, for a class
abbrev pub sums_over : ℕ → ℕ → List PortSender → PortSums
sums_over ps_per_bit class senders = record {
  higher = ps_per_bit * sum_where (is_above class) (λ s. s.rate) senders;
  equal = ps_per_bit * sum_where (is_of class) (λ s. s.rate) senders;
  bursts = sum_where (λ s. is_above class s || is_of class s) (λ s. s.burst_bits) senders;
  lower = greatest_where (is_below class) longest senders;
  least = least_where (is_of class) shortest senders;
}

-- the sums of a port of a network, for a class
abbrev pub port_sums : DeclaredNetwork → ℕ → ℕ → PortSums
port_sums network port class =
    sums_over (port_at network.topology.ports port).ps_per_bit class
    (senders_at network.topology port (senders_of network))

-- some stream of the class uses the port
abbrev pub is_used : DeclaredNetwork → ℕ → ℕ → Bool
is_used network port class =
    list_any (is_of class) (senders_at network.topology port (map stream_sender network.streams))
