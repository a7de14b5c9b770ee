use Rattle.std.specs.Prelude.{◌≡◌, ◌↔◌, ℕ, ◌<◌, ◌≤◌, List, length, map, All}
use Rattle.std.specs.List.Sorted.{IsNonDecreasing}
use Rattle.ats_topology.specs.Port.{port_at}
use Rattle.ats_topology.specs.Topology.{node_at}
use Rattle.ats_network.specs.Network.{DeclaredNetwork}
use Rattle.ats_port_rule.specs.PortRule.{KeepsPortRuleBy}
use Rattle.ats_port_rule.specs.Transmission.{Transmission}
use Rattle.ats_trace.specs.Clocks.{IsJudgedBy, IsLegal, KeepsNodeClock}
use Rattle.ats_trace.specs.Eligibility.{IsPassed}
use Rattle.ats_trace.specs.Journey.{IsJourney, Travel}
use Rattle.ats_trace.specs.Links.{KeepsLinkRule}
use Rattle.ats_trace.specs.Projections.{Handed, crossings_by, handed_by, sent_by}
use Rattle.ats_trace.specs.Run.{releases_of}
use Rattle.ats_trace.specs.Stored.{travel_at}
use Rattle.ats_trace.specs.Talker.{talker_of}
use Rattle.ats_trace.specs.declared.journey.Release.{Release}

-- by these clocks of nodes, and the times that they told frames, nothing happens in a run that the rules forbid
pub record GoesBy (network : DeclaredNetwork) (run : List Travel) (clocks told : ℕ → ℕ → ℕ) : Type 0 where
  pub in_order : IsNonDecreasing (map (λ (r : Release). r.at.0) (releases_of run))
  pub journeys : All (IsJourney network) run
  pub keeps : (node : ℕ) → KeepsNodeClock (node_at network.topology.nodes node).kind (clocks node)
  pub own : (frame : ℕ) → frame < length run
      → told (talker_of network (travel_at run frame).release.sender) frame
      ≡ clocks (talker_of network (travel_at run frame).release.sender) (travel_at run frame).release.at.0
  pub ports : (port : ℕ) → port < length network.topology.ports
      → KeepsPortRuleBy (λ (x : Transmission). told (port_at network.topology.ports port).from x.frame)
      (port_at network.topology.ports port).ps_per_bit (sent_by network run port)
  pub links : (port : ℕ) → port < length network.topology.ports
      → KeepsLinkRule (port_at network.topology.ports port) (crossings_by network run port)
  pub groups : (port class : ℕ) → port < length network.topology.ports → 1 ≤ class
      → IsJudgedBy (clocks (port_at network.topology.ports port).to) (told (port_at network.topology.ports port).to)
      network port (handed_by network run port class)
  pub flows : (port : ℕ) → port < length network.topology.ports → All (IsPassed network) (handed_by network run port 0)
  pub passed : (port : ℕ) → port < length network.topology.ports
      → All (λ (h : Handed). told (port_at network.topology.ports port).to h.crossing.sent.frame
      ≡ clocks (port_at network.topology.ports port).to h.crossing.arrival) (handed_by network run port 0)

-- a run is legal with just those clocks and told times by which it goes; so what is asked of a node by its clock is
-- asked by the one by which its frames are judged and sent
abbrev pub LegalRunsArePlain : Type 0
LegalRunsArePlain = (network : DeclaredNetwork) (run : List Travel) (clocks told : ℕ → ℕ → ℕ)
    → ((legal : IsLegal network run) × (legal.clocks ≡ clocks) × (legal.told ≡ told))
    ↔ GoesBy network run clocks told
