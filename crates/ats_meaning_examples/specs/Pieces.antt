use Rattle.std.specs.Prelude.{◌≡◌, ℕ, ◌+◌, ◌*◌, ◌==◌, List, [], ◌∷◌, Some, None, if◌then◌else◌}
use Rattle.std.specs.Prelude.{replicate, unwrap_or}
use Rattle.ats_num.specs.declared.time.Ps.{Ps}
use Rattle.ats_topology.specs.Node.{greatest_processing_of, least_processing_of}
use Rattle.ats_topology.specs.Rates.{ps_per_bit_of}
use Rattle.ats_topology.specs.Topology.{node_at, node_number, port_of}
use Rattle.ats_topology.specs.declared.link.Link.{Link}
use Rattle.ats_topology.specs.declared.node.Kind.TheVariants.{Bridge, Station}
use Rattle.ats_topology.specs.declared.node.Node.{Node}
use Rattle.ats_streams.specs.Stream.{classes_for}
use Rattle.ats_streams.specs.declared.traffic.Declared.{Declared}
use Rattle.ats_group.specs.Group.{Offer}
use Rattle.ats_group.specs.declared.verdict.Verdict.TheVariants.{Eligible, Late, Size}
use Rattle.ats_lrq.specs.Fold as lrq
use Rattle.ats_certificate.specs.Certificate.{row_of}
use Rattle.ats_certificate.specs.declared.row.Row.{Row}
use Rattle.ats_buffer.specs.Buffer.{of_row}
use Rattle.ats_conform.specs.Releases.{metered_at}
use Rattle.ats_trace.specs.declared.journey.Release.{Release}

-- What one thing is made of, for all things: a port of its link, classes of those that are given, a number of its row,
-- a metered frame of its release, and what a group of length-rate-quotient regulators keeps of what it kept before.

-- a port of its link: it has the link's rate and propagation, and the processing of the node that it leads to
pub record PortsAreOfLinks : Type 0 where
  pub from : (nodes : List Node) (l : Link) (a b : List ℕ) → (port_of nodes l a b).from ≡ node_number nodes a
  pub to : (nodes : List Node) (l : Link) (a b : List ℕ) → (port_of nodes l a b).to ≡ node_number nodes b
  pub per_bit : (nodes : List Node) (l : Link) (a b : List ℕ) → (port_of nodes l a b).ps_per_bit
      ≡ unwrap_or (ps_per_bit_of l.mbps) 0
  pub earliest : (nodes : List Node) (l : Link) (a b : List ℕ) → (port_of nodes l a b).earliest.0
      ≡ 1000 * (l.propagation_ns + least_processing_of (node_at nodes (node_number nodes b)).kind)
  pub latency : (nodes : List Node) (l : Link) (a b : List ℕ) → (port_of nodes l a b).latency.0
      ≡ 1000 * (l.propagation_ns + greatest_processing_of (node_at nodes (node_number nodes b)).kind)
  pub least_there : least_processing_of Station ≡ 0
  pub least : (min max residence ppm step : ℕ) → least_processing_of (Bridge min max residence ppm step) ≡ min
  pub greatest_there : greatest_processing_of Station ≡ 0
  pub greatest : (min max residence ppm step : ℕ) → greatest_processing_of (Bridge min max residence ppm step) ≡ max

-- one class stands for each port, none and more for themselves
pub record ClassesAreOfGiven : Type 0 where
  pub one : (ports class : ℕ) → classes_for ports (class ∷ []) ≡ replicate ports class
  pub none : (ports : ℕ) → classes_for ports [] ≡ []
  pub more : (ports class other : ℕ) (others : List ℕ) → classes_for ports (class ∷ other ∷ others)
      ≡ class ∷ other ∷ others

-- a number is that of the first row of its port and class, and 0 where there is none
pub record NumbersAreOfRows : Type 0 where
  pub there : (amount : Row → ℕ) (rows : List Row) (port class : ℕ) (row : Row) → row_of rows port class ≡ Some row
      → of_row amount rows port class ≡ amount row
  pub none : (amount : Row → ℕ) (rows : List Row) (port class : ℕ) → row_of rows port class ≡ None
      → of_row amount rows port class ≡ 0

-- a metered frame has its number, the time of its release and its bits on the wire
pub record MeteredAreOfReleases : Type 0 where
  pub frame : (n : ℕ) (r : Release) → (metered_at n r).frame ≡ n
  pub at : (n : ℕ) (r : Release) → (metered_at n r).at ≡ r.at
  pub bits : (n : ℕ) (r : Release) → (metered_at n r).bits ≡ 8 * (r.octets + 20)

-- a group of length-rate-quotient regulators keeps the last eligibility time, and of each member the last frame that
-- was eligible; a frame that is discarded leaves no trace. Each frame is judged by what is kept then
pub record GroupsKeepLast : Type 0 where
  pub time : (s : lrq.State) (o : Offer) (e : Ps) → (lrq.after s o (Eligible e)).time ≡ e.0
  pub last : (s : lrq.State) (o : Offer) (e : Ps) (m : ℕ) → (lrq.after s o (Eligible e)).last m
      ≡ (if m == o.member then Some (record { eligible = e; bits = 8 * (o.octets + 20) }) else s.last m)
  pub late : (s : lrq.State) (o : Offer) (e : Ps) → lrq.after s o (Late e) ≡ s
  pub size : (s : lrq.State) (o : Offer) → lrq.after s o Size ≡ s
  pub next : (declared : ℕ → Declared) (ns : ℕ) (s : lrq.State) (o : Offer) → lrq.next declared ns s o
      ≡ lrq.after s o (lrq.judged declared ns s o)
  pub no_frame : (declared : ℕ → Declared) (ns : ℕ) (s : lrq.State) → lrq.verdicts_of declared ns s [] ≡ []
  pub frame : (declared : ℕ → Declared) (ns : ℕ) (s : lrq.State) (o : Offer) (os : List Offer)
      → lrq.verdicts_of declared ns s (o ∷ os)
      ≡ lrq.judged declared ns s o ∷ lrq.verdicts_of declared ns (lrq.next declared ns s o) os
  pub begun : lrq.first.time ≡ 0
  pub fresh : (m : ℕ) → lrq.first.last m ≡ None

pub record PiecesAreMeant : Type 0 where
  pub ports : PortsAreOfLinks
  pub classes : ClassesAreOfGiven
  pub numbers : NumbersAreOfRows
  pub metered : MeteredAreOfReleases
  pub groups : GroupsKeepLast
