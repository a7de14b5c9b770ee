use Rattle.std.specs.Prelude.{◌≡◌, ◌≢◌, ℕ, ◌≤◌, List, [], ◌∷◌, length, All, AllPairs, slice_index_or}
use Rattle.ats_num.specs.declared.wire.TheConstants.{MIN_OCTETS}
use Rattle.ats_streams.specs.Rules.{AreSizes, KeepsRules}
use Rattle.ats_streams.specs.Path.{IsPath}
use Rattle.ats_streams.specs.Branches.{AreBranches, routes_of}
use Rattle.ats_streams.specs.declared.stream.TheConstants.{MAX_CLASS}
use Rattle.ats_topology.specs.Topology.{DeclaredTopology}
use Rattle.ats_topology.specs.Walks.{ArePorts}
use Rattle.ats_network.specs.Sender.{Sender}
use Rattle.ats_network.specs.Class.{class_at}
use Rattle.ats_network.specs.Rates.{IsRated}
use Rattle.ats_network.specs.Path.{IsTree, IsValidPath}
use Rattle.ats_network.specs.Bridges.{MeetAtBridge}
use Rattle.ats_network.specs.Network.{DeclaredNetwork, senders_of}

-- the sender at a number past the last one
abbrev pub no_sender : Sender
no_sender = record {
  name = [];
  ports = [];
  branches = [];
  classes = [];
  rate = 0;
  burst_bits = 0;
  min_octets = MIN_OCTETS;
  max_octets = MIN_OCTETS;
}

-- the sender with a number
abbrev pub sender_at : DeclaredNetwork → ℕ → Sender
sender_at network n = slice_index_or (senders_of network) n no_sender

-- a relation holds of each element of a list and the one after it
abbrev pub AllNeighbours : (ℕ → ℕ → Type 0) → List ℕ → Type 0
AllNeighbours R [] = Unit {0}
AllNeighbours R (p ∷ []) = Unit {0}
AllNeighbours R (p ∷ q ∷ path) = R p q × AllNeighbours R (q ∷ path)

-- what each sender of a network keeps: legs that make a tree of different ports of the topology; routes of 1 to 64
-- ports, each of them a valid path whose ports meet at bridges; a class of at most 7 for each port, and sizes of
-- frames; and, where its class at a port is not 0, a rate and a burst as a declared stream has them, and there what
-- comes of it and what its scheduler has behind the port are within the limits of a scheduler
pub record IsSender (topology : DeclaredTopology) (sender : Sender) : Type 0 where
  pub branches : AreBranches sender.ports sender.branches
  pub routes : All IsPath (routes_of sender.ports sender.branches)
  pub tree : IsTree topology sender.ports sender.branches
  pub ports : ArePorts topology.ports sender.ports
  pub apart : AllPairs (λ p q. p ≢ q) sender.ports
  pub valid : All (IsValidPath topology) (routes_of sender.ports sender.branches)
  pub bridges : All (AllNeighbours (MeetAtBridge topology)) (routes_of sender.ports sender.branches)
  pub each_port : length sender.classes ≡ length sender.ports
  pub classes : All (λ class. class ≤ MAX_CLASS) sender.classes
  pub sizes : AreSizes sender.min_octets sender.max_octets
  pub shaped : (port : ℕ) → 1 ≤ class_at sender port
      → KeepsRules sender.rate sender.burst_bits sender.min_octets sender.max_octets
  pub rated : (port : ℕ) → 1 ≤ class_at sender port → IsRated topology sender port

-- what a sender with one listener keeps besides: its ports are a valid path of 1 to 64, and they meet at bridges
pub record HasPath (topology : DeclaredTopology) (sender : Sender) : Type 0 where
  pub one_listener : sender.branches ≡ []
  pub path : IsPath sender.ports
  pub valid : IsValidPath topology sender.ports
  pub bridges : AllNeighbours (MeetAtBridge topology) sender.ports
