use Rattle.std.specs.Prelude.{◌≡◌, ℕ, ◌<◌, ◌≤◌, List, length, map, All}
use Rattle.std.specs.List.Sorted.{IsNonDecreasing}
use Rattle.ats_topology.specs.Port.{port_at}
use Rattle.ats_network.specs.Network.{DeclaredNetwork}
use Rattle.ats_port_rule.specs.PortRule.{KeepsPortRule, KeepsTie}
use Rattle.ats_trace.specs.Journey.{Travel, IsJourney}
use Rattle.ats_group.specs.Judge.{Judge, ats_judge}
use Rattle.ats_trace.specs.Projections.{sent_by, crossings_by, handed_by}
use Rattle.ats_trace.specs.Links.{KeepsLinkRule, KeepsPace}
use Rattle.ats_trace.specs.Eligibility.{IsJudged, IsPassed}
use Rattle.ats_trace.specs.declared.journey.Release.{Release}

-- the releases of a run, by frame number
abbrev pub releases_of : List Travel → List Release
releases_of run = map (λ (j : Travel). j.release) run

-- a run of a network in which all nodes read true time, and nothing happens that its rules forbid: the frames are
-- numbered in the order of their releases, each makes a journey, each port keeps the port rule, each link, with the
-- node behind it, keeps the link rule, and behind each port a group judges the streams' frames of each class, and the
-- flows' frames are judged by their size alone
pub record IsLegalBy (judge : Judge) (network : DeclaredNetwork) (run : List Travel) : Type 0 where
  pub in_order : IsNonDecreasing (map (λ (r : Release). r.at.0) (releases_of run))
  pub journeys : All (IsJourney network) run
  pub ports : (port : ℕ) → port < length network.topology.ports
      → KeepsPortRule (port_at network.topology.ports port).ps_per_bit (sent_by network run port)
  pub links : (port : ℕ) → port < length network.topology.ports
      → KeepsLinkRule (port_at network.topology.ports port) (crossings_by network run port)
  pub groups : (port class : ℕ) → port < length network.topology.ports → 1 ≤ class
      → IsJudged judge network port (handed_by network run port class)
  pub flows : (port : ℕ) → port < length network.topology.ports → All (IsPassed network) (handed_by network run port 0)

-- and the groups are those of Asynchronous Traffic Shaping: a legal run with ideal clocks
abbrev pub IsIdeal : DeclaredNetwork → List Travel → Type 0
IsIdeal network run = IsLegalBy ats_judge network run

-- a run in which each port breaks each tie by this key, of a sender and a frame, and behind each port frames arrive by
-- this pace: by this wait, of a frame and a spread
pub record IsRunBy (key wait : ℕ → ℕ → ℕ) (network : DeclaredNetwork) (run : List Travel) : Type 0 where
  pub legal : IsIdeal network run
  pub pace : (port : ℕ) → port < length network.topology.ports
      → KeepsPace wait (port_at network.topology.ports port) (crossings_by network run port)
  pub tie : (port : ℕ) → port < length network.topology.ports → KeepsTie key (sent_by network run port)

-- a run has exactly these releases
abbrev pub HasReleases : List Release → List Travel → Type 0
HasReleases releases run = releases_of run ≡ releases
