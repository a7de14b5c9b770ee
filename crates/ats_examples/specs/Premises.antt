use Rattle.std.specs.Prelude.{◌≡◌, ℕ, ◌<◌, List, [], ◌∷◌, false, IsTrue, length, All}
use Rattle.ats_topology.specs.Port.{port_at}
use Rattle.ats_network.specs.Network.{DeclaredNetwork, IsNetwork}
use Rattle.ats_network.specs.Rates.{committed_at}
use Rattle.ats_network.specs.Senders.{sender_at}
use Rattle.ats_certificate.specs.PortSums.{is_used}
use Rattle.ats_certificate.specs.Certificate.{Covers}
use Rattle.ats_certificate.specs.declared.row.Row.{Row}
use Rattle.ats_port_rule.specs.Transmission.{Transmission}
use Rattle.ats_port_rule.specs.PortRule.{KeepsPortRule}
use Rattle.ats_port_law.specs.PortLaw.{IsDeclared, IsOffered, ConformsInOrder, frames_by, IsWithinBound}
use Rattle.ats_examples.specs.Networks.{line_and_flow, fork, with_longer_flow}
use Rattle.ats_examples.specs.Rows.{row_with_flow, row_of_line, row_of_flows}

-- What the law asks cannot be left out: transmissions that keep all of it but one premise, and of which one comes later
-- than its row's bound.

-- a frame that is eligible at 0, while its port is idle, is sent a picosecond later
abbrev pub sent_late : List Transmission
sent_late = record { frame = 0; sender = 0; class = 6; bits = 12336; eligible = 0; start = 1; end = 12336001 } ∷ []

-- two frames of one stream at once, which are twice its burst
abbrev pub sent_twice : List Transmission
sent_twice =
    record { frame = 0; sender = 0; class = 6; bits = 12336; eligible = 0; start = 0; end = 12336000 }
    ∷ record { frame = 1; sender = 0; class = 6; bits = 12336; eligible = 0; start = 12336000; end = 24672000 }
    ∷ []

-- a stream's frame behind one of a flow, which is an octet longer than the flow declares
abbrev pub sent_behind_longer : List Transmission
sent_behind_longer =
    record { frame = 0; sender = 1; class = 0; bits = 12344; eligible = 0; start = 0; end = 12344000 }
    ∷ record { frame = 1; sender = 0; class = 6; bits = 12336; eligible = 1; start = 12344000; end = 24680000 }
    ∷ []

-- two frames of the flow at once, and a row for flows: no burst bounds what they send
abbrev pub sent_by_flow : List Transmission
sent_by_flow =
    record { frame = 0; sender = 1; class = 0; bits = 12336; eligible = 0; start = 0; end = 12336000 }
    ∷ record { frame = 1; sender = 1; class = 0; bits = 12336; eligible = 0; start = 12336000; end = 24672000 }
    ∷ []

-- a row covers its port and class in a network, and of these transmissions one comes later than its bound
pub record IsExceeded (network : DeclaredNetwork) (row : Row) (sent : List Transmission) : Type 0 where
  pub valid : IsNetwork network
  pub covers : Covers network row
  pub beyond : ¬ All (IsWithinBound network row) sent

-- the frames of each stream conform to what a port sees of it
abbrev pub StreamsConform : DeclaredNetwork → ℕ → List Transmission → Type 0
StreamsConform network port sent = (i : ℕ) → i < length network.streams
    → ConformsInOrder (committed_at network.topology port (sender_at network i)).rate
    (committed_at network.topology port (sender_at network i)).burst_bits (frames_by i sent)

-- all but the port rule
pub record PortRuleCounts : Type 0 where
  pub used : IsTrue (is_used fork 0 6)
  pub offered : IsOffered fork 0 sent_late
  pub exceeded : IsExceeded fork (row_of_line 0 13836000) sent_late

-- all but that the frames of each stream conform
pub record ConformingCounts : Type 0 where
  pub used : IsTrue (is_used fork 0 6)
  pub rule : KeepsPortRule (port_at fork.topology.ports 0).ps_per_bit sent_twice
  pub declared : All (IsDeclared fork 0) sent_twice
  pub exceeded : IsExceeded fork (row_of_line 0 13836000) sent_twice

-- all but that the frames of a flow have the sizes that it declares
pub record SizesCount : Type 0 where
  pub used : IsTrue (is_used line_and_flow 0 6)
  pub rule : KeepsPortRule (port_at line_and_flow.topology.ports 0).ps_per_bit sent_behind_longer
  pub conform : StreamsConform line_and_flow 0 sent_behind_longer
  pub longer : All (IsDeclared with_longer_flow 0) sent_behind_longer
  pub exceeded : IsExceeded line_and_flow row_with_flow sent_behind_longer

-- all but that some stream uses the row's port and class
pub record StreamsCount : Type 0 where
  pub unused : is_used line_and_flow 0 0 ≡ false
  pub rule : KeepsPortRule (port_at line_and_flow.topology.ports 0).ps_per_bit sent_by_flow
  pub offered : IsOffered line_and_flow 0 sent_by_flow
  pub exceeded : IsExceeded line_and_flow row_of_flows sent_by_flow
