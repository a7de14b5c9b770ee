use Rattle.std.specs.Prelude.{◌≡◌, ◌↔◌, ℕ, ◌+◌, ◌-◌, ◌*◌, ◌≤◌, List, map, slice_index_or, true, false, count_by, ◌||◌}
use Rattle.std.specs.Str.{bytes_eq}
use Rattle.ats_clock.specs.Clock.{DeclaredClock, IsClock, KeepsClock, declared_clock}
use Rattle.ats_clock.specs.Rates.{committed, output_behind, output_of, scheduler_for}
use Rattle.ats_topology.specs.Node.{clock_of, greatest_processing_of, is_station, least_processing_of, residence_of}
use Rattle.ats_topology.specs.Port.{port_at}
use Rattle.ats_topology.specs.Topology.{DeclaredTopology, HasOneLink, node_at}
use Rattle.ats_topology.specs.declared.link.Link.{Link}
use Rattle.ats_topology.specs.declared.node.Kind.TheVariants.{Bridge, Station}
use Rattle.ats_topology.specs.declared.node.Node.{Node}
use Rattle.ats_network.specs.Rates.{clock_behind, committed_at, ports_to, scheduled_at, talker_clock}
use Rattle.ats_network.specs.Sender.{Sender}

-- a bridge has the processing, the residence and the clock that it declares, whichever their numbers are; a station
-- takes no time, and its clock is the ideal one; and one link ends at a node where one has its name at an end
pub record NodesArePlain : Type 0 where
  pub bridge : (least greatest residence ppm step : ℕ) → clock_of (Bridge least greatest residence ppm step)
      ≡ declared_clock ppm step
  pub least : (least greatest residence ppm step : ℕ)
      → least_processing_of (Bridge least greatest residence ppm step) ≡ least
  pub greatest : (least greatest residence ppm step : ℕ)
      → greatest_processing_of (Bridge least greatest residence ppm step) ≡ greatest
  pub residence : (least greatest residence ppm step : ℕ)
      → residence_of (Bridge least greatest residence ppm step) ≡ residence
  pub is_bridge : (least greatest residence ppm step : ℕ)
      → is_station (Bridge least greatest residence ppm step) ≡ false
  pub station : clock_of Station ≡ declared_clock 0 0
  pub at_once : greatest_processing_of Station ≡ 0
  pub none_stays : residence_of Station ≡ 0
  pub is_one : is_station Station ≡ true
  pub linked : (links : List Link) (node : Node) → HasOneLink links node
      ↔ (count_by (λ (l : Link). bytes_eq l.a node.name || bytes_eq l.b node.name) links ≡ 1)

-- a clock has the deviation and the step that are declared, to the last ppm and picosecond; it may deviate by 1000 ppm
-- and step by 10^7 ps, each of them with whichever the other is; and it keeps to both where it never goes back, and
-- from any time to any later one gains no less and no more than its rate may give, but for a step
pub record ClocksArePlain : Type 0 where
  pub deviation : (ppm step : ℕ) → (declared_clock ppm step).deviation_ppm ≡ ppm
  pub step : (ppm step : ℕ) → (declared_clock ppm step).step_ps ≡ step
  pub may : (ppm step : ℕ) → IsClock (declared_clock ppm step) ↔ ((ppm ≤ 1000) × (step ≤ 10000000))
  pub keeps : (clock : DeclaredClock) (shows : ℕ → ℕ) → KeepsClock clock shows
      ↔ (((s t : ℕ) → s ≤ t → shows s ≤ shows t)
      × ((s t : ℕ) → s ≤ t → (1000000 - clock.deviation_ppm) * (t - s)
      ≤ 1000000 * (shows t - shows s) + 1000000 * clock.step_ps)
      × ((s t : ℕ) → s ≤ t → 1000000 * (shows t - shows s)
      ≤ (1000000 + clock.deviation_ppm) * (t - s) + 1000000 * clock.step_ps))

-- the clock behind a port is that of the node to which it leads, and a talker's that of the node that its first port
-- leaves; a sender's rate and burst are told by its talker's clock and then by each clock on its way, and a scheduler
-- has what its own clock asks for these
pub record RatesArePlain : Type 0 where
  pub behind : (topology : DeclaredTopology) (port : ℕ) → clock_behind topology port
      ≡ clock_of (node_at topology.nodes (port_at topology.ports port).to).kind
  pub talker : (topology : DeclaredTopology) (s : Sender) → talker_clock topology s
      ≡ clock_of (node_at topology.nodes (port_at topology.ports (slice_index_or s.ports 0 0)).from).kind
  pub at : (topology : DeclaredTopology) (port : ℕ) (s : Sender) → committed_at topology port s
      ≡ output_behind (map (clock_behind topology) (ports_to s port))
      (output_of (talker_clock topology s) (committed s.rate s.burst_bits))
  pub scheduled : (topology : DeclaredTopology) (port : ℕ) (s : Sender) → scheduled_at topology port s
      ≡ scheduler_for (clock_behind topology port) (committed_at topology port s)

pub record AllClocksArePlain : Type 0 where
  pub nodes : NodesArePlain
  pub clocks : ClocksArePlain
  pub rates : RatesArePlain
