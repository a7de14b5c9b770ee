use Rattle.std.specs.Prelude.{◌≡◌, ◌↔◌, ℕ, ◌+◌, ◌-◌, ◌*◌, ◌≤◌, ◌==◌, nat_le, nat_lt, List, map, filter, find, length}
use Rattle.std.specs.Prelude.{count_by, sum_by}
use Rattle.std.specs.List.{flat_map, list_all, list_any}
use Rattle.std.specs.Option.{option_map}
use Rattle.ats_num.specs.Division.{ceiling}
use Rattle.ats_clock.specs.Clock.{DeclaredClock}
use Rattle.ats_topology.specs.Port.{port_at, spread_of}
use Rattle.ats_topology.specs.Topology.{DeclaredTopology}
use Rattle.ats_topology.specs.declared.port.Port.{Port}
use Rattle.ats_streams.specs.Stream.{DeclaredStream}
use Rattle.ats_network.specs.Class.{class_at, seen_at}
use Rattle.ats_network.specs.Listeners.{listeners_of}
use Rattle.ats_network.specs.Network.{DeclaredNetwork, senders_of}
use Rattle.ats_network.specs.Rates.{clock_behind, committed_at}
use Rattle.ats_network.specs.Sender.{Sender, stream_sender}
use Rattle.ats_certificate.specs.Certificate.{Covers, FitsLink, HasSums, IsEnough, bound_of, bound_on, need_behind}
use Rattle.ats_certificate.specs.Certificate.{need_by, residence_needed}
use Rattle.ats_certificate.specs.Least.{IsLeastRow}
use Rattle.ats_certificate.specs.PortSums.{is_of, is_used, port_sums, senders_at, sums_over, uses}
use Rattle.ats_certificate.specs.declared.row.Row.{Row}
use Rattle.ats_bound.specs.Least.{least_certificate}
use Rattle.ats_explain.specs.Margins.{StreamListener, all_listeners, is_late, is_no_slacker, is_tightest, margin_of}
use Rattle.ats_explain.specs.Margins.{margin_on, margins_of, tightest_listener, with_listeners}
use Rattle.ats_explain.specs.Parts.{is_over, parts_of_hop}
use Rattle.ats_explain.specs.Totals.{over_among, tightest_with, totals_of}
use Rattle.ats_explain.specs.declared.margin.Margin.{Margin}

-- a port sees each sender that has it once, by its own class there, its sizes, and the rate and burst of its frames
-- there; and of these its sums are made
pub record SeeingIsPlain : Type 0 where
  pub has : (port : ℕ) (s : Sender) → uses port s ≡ list_any (λ p. p == port) s.ports
  pub class : (topology : DeclaredTopology) (port : ℕ) (s : Sender) → (seen_at topology port s).class ≡ class_at s port
  pub rate : (topology : DeclaredTopology) (port : ℕ) (s : Sender) → (seen_at topology port s).rate
      ≡ (committed_at topology port s).rate
  pub burst : (topology : DeclaredTopology) (port : ℕ) (s : Sender) → (seen_at topology port s).burst_bits
      ≡ (committed_at topology port s).burst_bits
  pub least : (topology : DeclaredTopology) (port : ℕ) (s : Sender) → (seen_at topology port s).min_octets
      ≡ s.min_octets
  pub greatest : (topology : DeclaredTopology) (port : ℕ) (s : Sender) → (seen_at topology port s).max_octets
      ≡ s.max_octets
  pub all : (topology : DeclaredTopology) (port : ℕ) (senders : List Sender) → senders_at topology port senders
      ≡ map (seen_at topology port) (filter (uses port) senders)
  pub sums : (network : DeclaredNetwork) (port class : ℕ) → port_sums network port class
      ≡ sums_over (port_at network.topology.ports port).ps_per_bit class
      (senders_at network.topology port (senders_of network))
  pub used : (network : DeclaredNetwork) (port class : ℕ) → is_used network port class
      ≡ list_any (is_of class) (senders_at network.topology port (map stream_sender network.streams))

-- a row covers its place where its sums are those of the port, they fit the link, and it waits long enough for the
-- longest lower frame and all bursts less the shortest frame; it is the least where no shorter wait would do
pub record RowsArePlain : Type 0 where
  pub bound : (port : Port) (wait least : ℕ) → bound_of port wait least
      ≡ wait + port.ps_per_bit * least + port.latency.0
  pub fits : (row : Row) → FitsLink row ↔ (row.higher + row.equal ≤ 1000000000000)
  pub enough : (port : Port) (row : Row) → IsEnough port row
      ↔ (1000000000000 * (port.ps_per_bit * (row.lower + row.bursts - row.least))
      ≤ row.wait * (1000000000000 - row.higher))
  pub covers : (network : DeclaredNetwork) (row : Row) → Covers network row
      ↔ (HasSums row (port_sums network row.port row.class)
      × (row.bound ≡ bound_of (port_at network.topology.ports row.port) row.wait row.least) × FitsLink row
      × IsEnough (port_at network.topology.ports row.port) row)
  pub least : (network : DeclaredNetwork) (row : Row) → IsLeastRow network row
      ↔ (Covers network row × ((wait : ℕ)
      → IsEnough (port_at network.topology.ports row.port) (record row { wait = wait }) → row.wait ≤ wait))
  pub stay : (port : Port) (wait : ℕ) → residence_needed port wait ≡ wait + spread_of port
  pub told : (clock : DeclaredClock) (need : ℕ) → need_by clock need
      ≡ need + clock.step_ps + ceiling (clock.deviation_ppm * need) 1000000
  pub need : (network : DeclaredNetwork) (port wait : ℕ) → need_behind network port wait
      ≡ need_by (clock_behind network.topology port)
      (residence_needed (port_at network.topology.ports port) wait)

-- each listener has the sum of the least bounds along its route beside its own stream's deadline; late is where the sum
-- is over it; and the tightest is the first of those whose slack is the least
pub record MarginsArePlain : Type 0 where
  pub sum : (network : DeclaredNetwork) (s : DeclaredStream) (route : List ℕ) → (margin_on network s route).sum
      ≡ bound_on (least_certificate network) s route
  pub deadline : (network : DeclaredNetwork) (s : DeclaredStream) (route : List ℕ)
      → (margin_on network s route).deadline ≡ 1000 * s.deadline_ns
  pub of : (network : DeclaredNetwork) (one : StreamListener) → margin_of network one
      ≡ margin_on network one.0 one.1.route
  pub listeners : (network : DeclaredNetwork) → all_listeners network
      ≡ flat_map (with_listeners network) network.streams
  pub each : (network : DeclaredNetwork) (s : DeclaredStream) → with_listeners network s
      ≡ map (λ l. (s, l)) (listeners_of network.topology s)
  pub all : (network : DeclaredNetwork) → margins_of network ≡ map (margin_of network) (all_listeners network)
  pub late : (m : Margin) → is_late m ≡ nat_lt m.deadline m.sum
  pub no_slacker : (a b : Margin) → is_no_slacker a b ≡ nat_le (a.deadline + b.sum) (b.deadline + a.sum)
  pub tightest : (all : List Margin) (m : Margin) → is_tightest all m ≡ list_all (is_no_slacker m) all
  pub first : (network : DeclaredNetwork) → tightest_listener network
      ≡ find (λ one. is_tightest (margins_of network) (margin_of network one)) (all_listeners network)

-- the totals of a network: its streams, its late listeners, its hops with too long a stay, and the tightest listener
pub record TotalsArePlain : Type 0 where
  pub streams : (network : DeclaredNetwork) → (totals_of network).streams ≡ length network.streams
  pub late : (network : DeclaredNetwork) → (totals_of network).late ≡ count_by is_late (margins_of network)
  pub over : (network : DeclaredNetwork) → (totals_of network).over
      ≡ sum_by (λ (s : DeclaredStream). over_among network s s.ports) network.streams
  pub among : (network : DeclaredNetwork) (s : DeclaredStream) (ports : List ℕ) → over_among network s ports
      ≡ count_by (λ port. is_over (parts_of_hop network s port).stay) ports
  pub tightest : (network : DeclaredNetwork) → (totals_of network).tightest
      ≡ option_map (tightest_with network) (tightest_listener network)
  pub name : (network : DeclaredNetwork) (one : StreamListener) → (tightest_with network one).name ≡ one.0.name
  pub listener : (network : DeclaredNetwork) (one : StreamListener) → (tightest_with network one).listener
      ≡ one.1.name
  pub margin : (network : DeclaredNetwork) (one : StreamListener) → (tightest_with network one).margin
      ≡ margin_of network one

pub record BoundsArePlain : Type 0 where
  pub seeing : SeeingIsPlain
  pub rows : RowsArePlain
  pub margins : MarginsArePlain
  pub totals : TotalsArePlain
