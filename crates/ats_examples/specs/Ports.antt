use Rattle.std.specs.Prelude.{◌≡◌, ℕ, ◌+◌, List, [], ◌∷◌, IsTrue, All}
use Rattle.ats_topology.specs.Port.{port_at}
use Rattle.ats_network.specs.Network.{DeclaredNetwork, IsNetwork}
use Rattle.ats_certificate.specs.PortSums.{is_used}
use Rattle.ats_certificate.specs.Certificate.{Covers}
use Rattle.ats_certificate.specs.declared.row.Row.{Row}
use Rattle.ats_port_rule.specs.Transmission.{Transmission}
use Rattle.ats_port_rule.specs.PortRule.{KeepsPortRule}
use Rattle.ats_port_law.specs.PortLaw.{IsDeclared, IsOffered, IsWithinBound}
use Rattle.ats_examples.specs.Networks.{line_and_flow, fork, fork_of_classes}
use Rattle.ats_examples.specs.Rows.{row_with_flow, next_row_with_flow, row_of_line, row_with_two, row_of_lowered}

-- Transmissions of one port for which all that the port law asks holds.

-- the flow's frame, released at 0, is sent to its end before the stream's, released at 1
abbrev pub sent_behind_flow : List Transmission
sent_behind_flow =
    record { frame = 0; sender = 1; class = 0; bits = 12336; eligible = 0; start = 0; end = 12336000 }
    ∷ record { frame = 1; sender = 0; class = 6; bits = 12336; eligible = 1; start = 12336000; end = 24672000 }
    ∷ []

-- the bridge sends both in the same order; the stream's frame comes when the flow's has been sent
abbrev pub sent_on_behind_flow : List Transmission
sent_on_behind_flow =
    record { frame = 0; sender = 1; class = 0; bits = 12336; eligible = 13836000; start = 13836000; end = 26172000 }
    ∷ record { frame = 1; sender = 0; class = 6; bits = 12336; eligible = 26172000; start = 26172000; end = 38508000 }
    ∷ []

-- each station sends its stream's frame at 0
abbrev pub sent_at_once : ℕ → List Transmission
sent_at_once sender =
    record { frame = sender; sender = sender; class = 6; bits = 12336; eligible = 0; start = 0; end = 12336000 } ∷ []

-- both frames are eligible at 13836000, and the second is sent after the first
abbrev pub sent_in_turn : List Transmission
sent_in_turn =
    record { frame = 0; sender = 0; class = 6; bits = 12336; eligible = 13836000; start = 13836000; end = 26172000 }
    ∷ record { frame = 1; sender = 1; class = 6; bits = 12336; eligible = 13836000; start = 26172000; end = 38508000 }
    ∷ []

-- both are, and the first is of class 5 there
abbrev pub lowered_frame : ℕ → Transmission
lowered_frame class = record {
  frame = 0;
  sender = 0;
  class = class;
  bits = 12336;
  eligible = 13836000;
  start = 26172000;
  end = 38508000;
}

abbrev pub sent_by_class : List Transmission
sent_by_class =
    record { frame = 1; sender = 1; class = 6; bits = 12336; eligible = 13836000; start = 13836000; end = 26172000 }
    ∷ lowered_frame 5
    ∷ []

-- of a network, some stream uses the row's port and class, the row covers them, the port keeps its rule with what it
-- may be asked to send, and each frame is within the bound
pub record IsWorked (network : DeclaredNetwork) (row : Row) (sent : List Transmission) : Type 0 where
  pub valid : IsNetwork network
  pub used : IsTrue (is_used network row.port row.class)
  pub covers : Covers network row
  pub rule : KeepsPortRule (port_at network.topology.ports row.port).ps_per_bit sent
  pub offered : IsOffered network row.port sent
  pub within : All (IsWithinBound network row) sent

-- behind a lower frame, at the station's port and at the bridge's
pub record BehindFlow : Type 0 where
  pub at_station : IsWorked line_and_flow row_with_flow sent_behind_flow
  pub at_bridge : IsWorked line_and_flow next_row_with_flow sent_on_behind_flow

-- a frame that is alone at its station's port takes the whole of the bound, at either station
pub record AtOnce : Type 0 where
  pub at_s1 : IsWorked fork (row_of_line 0 13836000) (sent_at_once 0)
  pub at_s3 : IsWorked fork (row_of_line 4 13836000) (sent_at_once 1)
  pub whole_at_s1 : 12336000 + (port_at fork.topology.ports 0).latency.0 ≡ (row_of_line 0 13836000).bound
  pub whole_at_s3 : 12336000 + (port_at fork.topology.ports 4).latency.0 ≡ (row_of_line 4 13836000).bound

-- of two equal frames the second takes the whole of the bound
pub record InTurn : Type 0 where
  pub worked : IsWorked fork row_with_two sent_in_turn
  pub whole : 38508000 + (port_at fork.topology.ports 2).latency.0 ≡ 13836000 + row_with_two.bound

-- a frame goes by its class at the port, which is another one at its station
pub record InClasses : Type 0 where
  pub worked : IsWorked fork_of_classes row_of_lowered sent_by_class
  pub of_first_class : ¬ IsDeclared fork_of_classes 2 (lowered_frame 6)
