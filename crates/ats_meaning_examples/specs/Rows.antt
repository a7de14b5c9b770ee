use Rattle.std.specs.Prelude.{◌≡◌, ◌↔◌, ◌⊎◌, ℕ, ◌+◌, ◌-◌, ◌*◌, ◌<◌, ◌≤◌, ◌==◌, ◌&&◌, nat_le, nat_lt, if◌then◌else◌}
use Rattle.std.specs.Prelude.{List, [], ◌∷◌, length, map, sum_by, Contains, All, AllPairs, Some, None, IsTrue}
use Rattle.std.specs.List.{flat_map}
use Rattle.ats_num.specs.Wire.{bits_of}
use Rattle.ats_topology.specs.Port.{port_at, spread_of}
use Rattle.ats_topology.specs.Topology.{DeclaredTopology, node_at}
use Rattle.ats_topology.specs.declared.node.Kind.TheVariants.{Bridge, Station}
use Rattle.ats_topology.specs.declared.port.Port.{Port}
use Rattle.ats_streams.specs.Branches.{routes_of, trunk_of}
use Rattle.ats_streams.specs.Stream.{DeclaredStream}
use Rattle.ats_network.specs.Class.{class_at}
use Rattle.ats_network.specs.Network.{DeclaredNetwork, senders_of}
use Rattle.ats_network.specs.Rates.{clock_behind, committed_at}
use Rattle.ats_network.specs.Residence.{residence_after, residence_at}
use Rattle.ats_network.specs.Sender.{Sender, stream_sender}
use Rattle.ats_certificate.specs.Certificate.{Holds, IsBefore, IsEnough, IsInTime, MayStay, bound_along, bound_at}
use Rattle.ats_certificate.specs.Certificate.{bound_of_hop, bound_on, need_by, row_of, sums_of}
use Rattle.ats_certificate.specs.Least.{IsLeastCertificate}
use Rattle.ats_certificate.specs.OneListener.{HasOneSum}
use Rattle.ats_certificate.specs.PortSums.{is_used, port_sums, uses}
use Rattle.ats_certificate.specs.declared.row.Row.{Row}
use Rattle.ats_tally.specs.Delays.{sums_for}
use Rattle.ats_tally.specs.Reason.{ReasonInside}
use Rattle.ats_tally.specs.declared.reason.Reason.TheVariants.{Overloaded, Residence}
use Rattle.ats_lrq.specs.Narrow.{narrowed_stream}
use Rattle.ats_bound.specs.Laws.{IsAnswered}
use Rattle.ats_bound.specs.Least.{least_certificate}
use Rattle.ats_soundness_law.specs.Rules.{AreRulesOf, Keeps, RestHolds, Rule}

-- What a row of a certificate says of any network, by its senders one by one; what is asked of its wait; and which row
-- and which bound belong to a place.

-- a sender uses the port, and is of this class there
abbrev pub IsOf : DeclaredNetwork → ℕ → ℕ → Sender → Type 0
IsOf network port class s =
    Contains (senders_of network) s × Contains s.ports port × (class_at s port ≡ class)

-- it is of a lower class there
abbrev pub IsBelow : DeclaredNetwork → ℕ → ℕ → Sender → Type 0
IsBelow network port class s =
    Contains (senders_of network) s × Contains s.ports port × (class_at s port < class)

-- of each sender that uses the port its rate there where its class there is above this one, or is this one, and its
-- burst there where it is either; the bits of the longest frame of a lower class, a flow's or a stream's, and of the
-- shortest of this one, or 0 where there is none
pub record SumsAreMeant (network : DeclaredNetwork) (port class : ℕ) : Type 0 where
  pub higher : (port_sums network port class).higher
      ≡ (port_at network.topology.ports port).ps_per_bit
      * sum_by (λ (s : Sender). if uses port s && nat_lt class (class_at s port)
      then (committed_at network.topology port s).rate else 0) (senders_of network)
  pub equal : (port_sums network port class).equal
      ≡ (port_at network.topology.ports port).ps_per_bit
      * sum_by (λ (s : Sender). if uses port s && class_at s port == class
      then (committed_at network.topology port s).rate else 0) (senders_of network)
  pub bursts : (port_sums network port class).bursts
      ≡ sum_by (λ (s : Sender). if uses port s && nat_le class (class_at s port)
      then (committed_at network.topology port s).burst_bits else 0) (senders_of network)
  pub lower_most : (s : Sender) → IsBelow network port class s
      → bits_of s.max_octets ≤ (port_sums network port class).lower
  pub lower_is : ((port_sums network port class).lower ≡ 0)
      ⊎ ((s : Sender) × IsBelow network port class s × (bits_of s.max_octets ≡ (port_sums network port class).lower))
  pub least_least : (s : Sender) → IsOf network port class s
      → (port_sums network port class).least ≤ bits_of s.min_octets
  pub least_is : (((port_sums network port class).least ≡ 0) × ((s : Sender) → ¬ IsOf network port class s))
      ⊎ ((s : Sender) × IsOf network port class s × (bits_of s.min_octets ≡ (port_sums network port class).least))

-- a port and a class are used where some stream has the class there: no flow does
abbrev pub UsingIsMeant : Type 0
UsingIsMeant = (network : DeclaredNetwork) (port class : ℕ) → IsTrue (is_used network port class)
    ↔ ((s : DeclaredStream) × Contains network.streams s × Contains s.ports port
    × (class_at (stream_sender s) port ≡ class))

-- what is asked of a wait: at the rate that higher classes leave, the link sends in it the longest lower frame and all
-- bursts but the shortest frame; and by the clock behind the port it is, with the spread, no longer than the residence
-- time of the bridge there, where there is one. Bursts are narrowed to a longest frame
pub record WaitsAreMeant : Type 0 where
  pub narrowed : (s : DeclaredStream) → narrowed_stream s ≡ record s { burst_bits = bits_of s.max_octets }
  pub enough : (port : Port) (row : Row) → IsEnough port row
      ↔ (1000000000000 * (port.ps_per_bit * (row.lower + row.bursts - row.least))
      ≤ row.wait * (1000000000000 - row.higher))
  pub stay : (network : DeclaredNetwork) (port wait : ℕ) → MayStay network port wait
      ↔ ((ns : ℕ) → residence_after network.topology port ≡ Some ns
      → need_by (clock_behind network.topology port)
      (wait + spread_of (port_at network.topology.ports port)) ≤ 1000 * ns)
  pub residence : (t : DeclaredTopology) (port : ℕ)
      → residence_after t port ≡ residence_at (node_at t.nodes (port_at t.ports port).to).kind
  pub of_bridge : (processing_min_ns processing_max_ns residence_ns clock_ppm clock_step_ps : ℕ)
      → residence_at (Bridge processing_min_ns processing_max_ns residence_ns clock_ppm clock_step_ps)
      ≡ Some residence_ns
  pub of_station : residence_at Station ≡ None

-- of rows in order each is found at its place, and no other one is; at a place without a row the bound is 0; and a sum
-- has the bound of each port of a route
pub record FindingIsMeant : Type 0 where
  pub found : (rows : List Row) (row : Row) → AllPairs IsBefore rows → Contains rows row
      → row_of rows row.port row.class ≡ Some row
  pub there : (rows : List Row) (port class : ℕ) (row : Row) → row_of rows port class ≡ Some row
      → Contains rows row × (row.port ≡ port) × (row.class ≡ class)
  pub bound : (rows : List Row) (port class : ℕ) (row : Row) → row_of rows port class ≡ Some row
      → bound_at rows port class ≡ row.bound
  pub no_bound : (rows : List Row) (port class : ℕ) → row_of rows port class ≡ None → bound_at rows port class ≡ 0
  pub hop : (rows : List Row) (s : Sender) (port : ℕ)
      → bound_of_hop rows s port ≡ bound_at rows port (class_at s port)
  pub along : (rows : List Row) (stream : DeclaredStream) (route : List ℕ)
      → bound_on rows stream route ≡ sum_by (λ port. bound_at rows port (class_at (stream_sender stream) port)) route
  pub trunk : (rows : List Row) (stream : DeclaredStream)
      → bound_along rows stream ≡ bound_on rows stream (trunk_of stream.ports stream.branches)
  pub sums : (rows : List Row) (stream : DeclaredStream)
      → sums_of rows stream ≡ map (bound_on rows stream) (routes_of stream.ports stream.branches)
  pub all_sums : (network : DeclaredNetwork) (rows : List Row)
      → sums_for network rows ≡ flat_map (sums_of rows) network.streams

-- a certificate holds where it keeps ten rules and the rest holds, which is these three; and what laws conclude of the
-- least one, of a stream with one listener, and of the port in a reason
pub record HoldingIsMeant : Type 0 where
  pub rules : (network : DeclaredNetwork) (given : List Row) → AreRulesOf network given
      ↔ ((Holds network given → (rule : Rule) → Keeps rule network given)
      × (Holds network given → RestHolds network given)
      × (((rule : Rule) → Keeps rule network given) → RestHolds network given → Holds network given))
  pub rest : (network : DeclaredNetwork) (given : List Row) → RestHolds network given
      ↔ (All (λ (row : Row). IsTrue (is_used network row.port row.class)) given × AllPairs IsBefore given
      × All (IsInTime given) network.streams)
  pub before : (a b : Row) → IsBefore a b ↔ ((a.port < b.port) ⊎ ((a.port ≡ b.port) × (a.class < b.class)))
  pub answered : (network : DeclaredNetwork) → IsAnswered network
      ↔ (IsLeastCertificate network (least_certificate network) × Holds network (least_certificate network))
  pub one_sum : (rows : List Row) (stream : DeclaredStream) → HasOneSum rows stream
      ↔ ((bound_along rows stream ≡ sum_by (bound_of_hop rows (stream_sender stream)) stream.ports)
      × (sums_of rows stream ≡ bound_along rows stream ∷ [])
      × (IsInTime rows stream ↔ (bound_along rows stream ≤ 1000 * stream.deadline_ns)))
  pub overloaded : (t : DeclaredTopology) (port class load : ℕ) → ReasonInside t (Overloaded port class load)
      ↔ (port < length t.ports)
  pub residence : (t : DeclaredTopology) (port class need : ℕ) → ReasonInside t (Residence port class need)
      ↔ (port < length t.ports)

pub record RowsAreMeant : Type 0 where
  pub sums : (network : DeclaredNetwork) (port class : ℕ) → SumsAreMeant network port class
  pub used : UsingIsMeant
  pub waits : WaitsAreMeant
  pub finding : FindingIsMeant
  pub holding : HoldingIsMeant
