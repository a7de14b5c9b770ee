use Rattle.std.specs.Prelude.{◌≡◌, ℕ, ◌-◌, ◌<◌, ◌≤◌, true, false, List, [], ◌++◌, Some, None, codes, decimal}
use Rattle.ats_topology.specs.Topology.{DeclaredTopology}
use Rattle.ats_topology.specs.declared.port.Port.{Port}
use Rattle.ats_port_names.specs.PortName.{port_name}
use Rattle.ats_network.specs.Listeners.{listener_text}
use Rattle.ats_network.specs.Network.{DeclaredNetwork}
use Rattle.ats_explain.specs.Loads.{has_stream, port_load}
use Rattle.ats_explain.specs.declared.margin.Margin.{Margin}
use Rattle.ats_explain.specs.declared.parts.Parts.{Parts}
use Rattle.ats_explain.specs.declared.parts.Stay.{Stay}
use Rattle.ats_explain.specs.declared.totals.Tightest.{Tightest}
use Rattle.ats_explain.specs.declared.totals.Totals.{Totals}
use Rattle.ats_explain_text.specs.Text.{hop_line, port_text, sender_text, stream_line, totals_line}

-- the line of a listener gives the stream, and the station where it is a further one, the sum of the bounds and the
-- deadline, and what is left of it, or how much is missing
pub record ListenersAreExplained : Type 0 where
  pub within : (name : List ℕ) (m : Margin) → m.sum ≤ m.deadline → stream_line name None m
      ≡ codes "stream " ++ name ++ codes " sum " ++ decimal m.sum ++ codes " deadline " ++ decimal m.deadline
      ++ codes " slack " ++ decimal (m.deadline - m.sum) ++ codes "\n"
  pub late : (name : List ℕ) (m : Margin) → m.deadline < m.sum → stream_line name None m
      ≡ codes "stream " ++ name ++ codes " sum " ++ decimal m.sum ++ codes " deadline " ++ decimal m.deadline
      ++ codes " late " ++ decimal (m.sum - m.deadline) ++ codes "\n"
  pub within_further : (name station : List ℕ) (m : Margin) → m.sum ≤ m.deadline → stream_line name (Some station) m
      ≡ codes "listener " ++ name ++ codes " " ++ station ++ codes " sum " ++ decimal m.sum ++ codes " deadline "
      ++ decimal m.deadline ++ codes " slack " ++ decimal (m.deadline - m.sum) ++ codes "\n"
  pub late_further : (name station : List ℕ) (m : Margin) → m.deadline < m.sum → stream_line name (Some station) m
      ≡ codes "listener " ++ name ++ codes " " ++ station ++ codes " sum " ++ decimal m.sum ++ codes " deadline "
      ++ decimal m.deadline ++ codes " late " ++ decimal (m.sum - m.deadline) ++ codes "\n"

-- the line of a hop gives the port and the class, the parts of the wait, with the sender of the lower frame, then the
-- other parts and the bound; and where a stay is told, what is needed, of what is declared
pub record HopsAreExplained : Type 0 where
  pub to_station : (t : DeclaredTopology) (port class : ℕ) (parts : Parts) → parts.stay ≡ None
      → hop_line t port class parts
      ≡ codes "hop " ++ port_name t port ++ codes " " ++ decimal class ++ codes " lower " ++ decimal parts.lower
      ++ codes " " ++ sender_text parts.sender ++ codes " bursts " ++ decimal parts.bursts ++ codes " higher "
      ++ decimal parts.higher ++ codes " frame " ++ decimal parts.frame ++ codes " latency " ++ decimal parts.latency
      ++ codes " bound " ++ decimal parts.bound ++ codes "\n"
  pub to_bridge : (t : DeclaredTopology) (port class : ℕ) (parts : Parts) (stay : Stay) → parts.stay ≡ Some stay
      → hop_line t port class parts
      ≡ codes "hop " ++ port_name t port ++ codes " " ++ decimal class ++ codes " lower " ++ decimal parts.lower
      ++ codes " " ++ sender_text parts.sender ++ codes " bursts " ++ decimal parts.bursts ++ codes " higher "
      ++ decimal parts.higher ++ codes " frame " ++ decimal parts.frame ++ codes " latency " ++ decimal parts.latency
      ++ codes " bound " ++ decimal parts.bound ++ codes " stay " ++ decimal stay.need ++ codes " of "
      ++ decimal stay.residence ++ codes "\n"

-- a port has a line with its load where a stream has it, and else none; and the last line gives the three counts, and
-- names the tightest listener, if there is one, with what is left there or missing
pub record EndsAreExplained : Type 0 where
  pub used : (network : DeclaredNetwork) (n : ℕ) (port : Port) → has_stream network n ≡ true
      → port_text network (n, port)
      ≡ codes "port " ++ port_name network.topology n ++ codes " load " ++ decimal (port_load network n) ++ codes "\n"
  pub not_used : (network : DeclaredNetwork) (n : ℕ) (port : Port) → has_stream network n ≡ false
      → port_text network (n, port) ≡ []
  pub no_stream : (totals : Totals) → totals.tightest ≡ None → totals_line totals
      ≡ codes "total streams " ++ decimal totals.streams ++ codes " late " ++ decimal totals.late ++ codes " over "
      ++ decimal totals.over ++ codes "\n"
  pub within : (totals : Totals) (one : Tightest) → totals.tightest ≡ Some one
      → one.margin.sum ≤ one.margin.deadline → totals_line totals
      ≡ codes "total streams " ++ decimal totals.streams ++ codes " late " ++ decimal totals.late ++ codes " over "
      ++ decimal totals.over ++ codes " tightest " ++ listener_text one.name one.listener ++ codes " slack "
      ++ decimal (one.margin.deadline - one.margin.sum) ++ codes "\n"
  pub late : (totals : Totals) (one : Tightest) → totals.tightest ≡ Some one
      → one.margin.deadline < one.margin.sum → totals_line totals
      ≡ codes "total streams " ++ decimal totals.streams ++ codes " late " ++ decimal totals.late ++ codes " over "
      ++ decimal totals.over ++ codes " tightest " ++ listener_text one.name one.listener ++ codes " late "
      ++ decimal (one.margin.sum - one.margin.deadline) ++ codes "\n"

-- the lines of `explain`
pub record ExplainIsWritten : Type 0 where
  pub listeners : ListenersAreExplained
  pub hops : HopsAreExplained
  pub ends : EndsAreExplained
