use Rattle.std.specs.Prelude.{ℕ, ◌==◌, if◌then◌else◌, List, [], ◌∷◌, Option, Some, None}
use Rattle.std.specs.Option.{option_or}
use Rattle.ats_streams.specs.Branches.{routes_of}
use Rattle.ats_topology.specs.Topology.{DeclaredTopology}
use Rattle.ats_network.specs.Sender.{Sender}
use Rattle.ats_network.specs.Rates.{committed_at}

-- of classes that belong to the ports of a path, one by one, that of this port; 0 where the path does not have it
abbrev pub class_along : ℕ → List ℕ → List ℕ → ℕ
class_along port (p ∷ path) (class ∷ classes) = if p == port then class else class_along port path classes
class_along port path classes = 0

-- the class of a sender's frames at a port
abbrev pub class_at : Sender → ℕ → ℕ
class_at sender port = class_along port sender.ports sender.classes

-- the port just before another one on a path, where the path has one before it
abbrev pub before_along : ℕ → List ℕ → Option ℕ
before_along port (p ∷ q ∷ path) = if q == port then Some p else before_along port (q ∷ path)
before_along port path = None

-- the port just before another one on the first of these routes on which it has one before it
abbrev pub before_on : ℕ → List (List ℕ) → Option ℕ
before_on port [] = None
before_on port (route ∷ routes) = option_or (before_along port route) (before_on port routes)

-- the port just before another one on a sender's routes, all of which come to a port in the same way; the first port of
-- the trunk has none before it
abbrev pub port_before : Sender → ℕ → Option ℕ
port_before sender port = before_on port (routes_of sender.ports sender.branches)

-- what a port sees of a sender: its class there, the rate in bits per second and the burst in bits to which its frames
-- conform there in true time, and its least and greatest octets
pub record PortSender : Type 0 where
  pub class : ℕ
  pub rate : ℕ
  pub burst_bits : ℕ
  pub min_octets : ℕ
  pub max_octets : ℕ

-- a sender as a port sees it
abbrev pub seen_at : DeclaredTopology → ℕ → Sender → PortSender
seen_at topology port s = record {
  class = class_at s port;
  rate = (committed_at topology port s).rate;
  burst_bits = (committed_at topology port s).burst_bits;
  min_octets = s.min_octets;
  max_octets = s.max_octets;
}
