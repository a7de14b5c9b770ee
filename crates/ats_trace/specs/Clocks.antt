use Rattle.std.specs.Prelude.{◌≡◌, ℕ, ◌<◌, ◌≤◌, List, length, map, All, IsPermutation}
use Rattle.std.specs.List.{AllZip}
use Rattle.std.specs.List.Sorted.{IsNonDecreasing}
use Rattle.ats_clock.specs.Clock.{KeepsClock, declared_clock}
use Rattle.ats_clock_law.specs.TrueTime.{AreTrueVerdicts, stamped_offers}
use Rattle.ats_topology.specs.Port.{port_at}
use Rattle.ats_topology.specs.Topology.{node_at}
use Rattle.ats_topology.specs.declared.node.Kind.{Kind}
use Rattle.ats_topology.specs.declared.node.Kind.TheVariants.{Station, Bridge}
use Rattle.ats_network.specs.Network.{DeclaredNetwork}
use Rattle.ats_group.specs.Judge.{ats_judge}
use Rattle.ats_group.specs.declared.verdict.Verdict.{Verdict}
use Rattle.ats_group.specs.declared.verdict.Verdict.TheVariants.{Eligible, Late, Size}
use Rattle.ats_port_rule.specs.PortRule.{KeepsPortRuleBy}
use Rattle.ats_port_rule.specs.Transmission.{Transmission}
use Rattle.ats_trace.specs.Eligibility.{IsPassed, offer_of, residence_of_groups, scheduled_by}
use Rattle.ats_trace.specs.Journey.{Travel, IsJourney}
use Rattle.ats_trace.specs.Links.{KeepsLinkRule}
use Rattle.ats_trace.specs.Projections.{Handed, sent_by, crossings_by, handed_by}
use Rattle.ats_trace.specs.Run.{releases_of}
use Rattle.ats_trace.specs.Stored.{travel_at}
use Rattle.ats_trace.specs.Talker.{talker_of}
use Rattle.ats_trace.specs.declared.journey.Release.{Release}

-- Runs in which each bridge goes by a clock of its own.

-- what the clock of a node may show at each picosecond of true time: a station reads true time, and a bridge's clock
-- keeps its declared deviation and step
abbrev pub KeepsNodeClock : Kind → (ℕ → ℕ) → Type 0
KeepsNodeClock Station shows = (t : ℕ) → shows t ≡ t
KeepsNodeClock (Bridge processing_min_ns processing_max_ns residence_ns clock_ppm clock_step_ps) shows =
    KeepsClock (declared_clock clock_ppm clock_step_ps) shows

-- where a verdict is eligible, the frame was told its time by the clock
abbrev pub WasTold : (ℕ → ℕ) → Handed → Verdict → Type 0
WasTold told h (Eligible at) = told h.crossing.sent.frame ≡ at.0
WasTold told h (Late at) = Unit {0}
WasTold told h Size = Unit {0}

-- frames of one class get their verdicts from one group behind a port, which judges them in the order of their arrivals
-- by its node's clock: each is told the time at which it is eligible by that clock, and is eligible in true time, not
-- before it has arrived, once the clock shows that time
pub record IsJudgedBy (shows told : ℕ → ℕ) (network : DeclaredNetwork) (port : ℕ) (handed : List Handed)
    : Type 0 where
  pub arrivals : List Handed
  pub same : IsPermutation handed arrivals
  pub in_order : IsNonDecreasing (map (λ (h : Handed). h.crossing.arrival) arrivals)
  pub verdicts : AreTrueVerdicts shows ats_judge (scheduled_by network port) (residence_of_groups network port)
      (map offer_of arrivals) (map (λ (h : Handed). h.verdict) arrivals)
  pub times : AllZip (WasTold told) arrivals (ats_judge (scheduled_by network port) (residence_of_groups network port)
      (stamped_offers shows (map offer_of arrivals)))

-- a node's own frame was told what the node's clock showed at its release
abbrev pub WasToldAtRelease : (clocks told : ℕ → ℕ → ℕ) → DeclaredNetwork → ℕ → Release → Type 0
WasToldAtRelease clocks told network frame r =
    told (talker_of network r.sender) frame ≡ clocks (talker_of network r.sender) r.at.0

-- and a frame of a flow, at each node to which it comes, what that node's clock showed at its arrival
abbrev pub WasToldAtArrival : (shows told : ℕ → ℕ) → Handed → Type 0
WasToldAtArrival shows told h = told h.crossing.sent.frame ≡ shows h.crossing.arrival

-- a legal run of a network, in true time: there are clocks, one for each node, and times that the clocks of nodes
-- told frames, with which nothing happens that the rules forbid. The frames are numbered in the order of their
-- releases, each makes a journey, each link, with the node behind it, keeps the link rule; each port keeps the port
-- rule by the times that its node's clock told; behind each port a group of Asynchronous Traffic Shaping judges the
-- streams' frames of each class by its node's clock, and the flows' frames are judged by their size alone
pub record IsLegal (network : DeclaredNetwork) (run : List Travel) : Type 0 where
  pub in_order : IsNonDecreasing (map (λ (r : Release). r.at.0) (releases_of run))
  pub journeys : All (IsJourney network) run
  pub clocks : (node : ℕ) → ℕ → ℕ
  pub keeps : (node : ℕ) → KeepsNodeClock (node_at network.topology.nodes node).kind (clocks node)
  pub told : (node frame : ℕ) → ℕ
  pub own : (frame : ℕ) → frame < length run → WasToldAtRelease clocks told network frame (travel_at run frame).release
  pub ports : (port : ℕ) → port < length network.topology.ports
      → KeepsPortRuleBy (λ (x : Transmission). told (port_at network.topology.ports port).from x.frame)
      (port_at network.topology.ports port).ps_per_bit (sent_by network run port)
  pub links : (port : ℕ) → port < length network.topology.ports
      → KeepsLinkRule (port_at network.topology.ports port) (crossings_by network run port)
  pub groups : (port class : ℕ) → port < length network.topology.ports → 1 ≤ class
      → IsJudgedBy (clocks (port_at network.topology.ports port).to) (told (port_at network.topology.ports port).to)
      network port (handed_by network run port class)
  pub flows : (port : ℕ) → port < length network.topology.ports → All (IsPassed network) (handed_by network run port 0)
  pub passed : (port : ℕ) → port < length network.topology.ports
      → All (WasToldAtArrival (clocks (port_at network.topology.ports port).to)
      (told (port_at network.topology.ports port).to)) (handed_by network run port 0)
