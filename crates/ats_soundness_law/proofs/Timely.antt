-- What is known of the frames that a port hands on, where its row holds and it is offered what it may be asked to send.
use Rattle.std.proofs.Common.{◌≡◌, ℕ, ◌+◌, ◌*◌, ◌<◌, ◌≤◌, true, false, List, map, length, get_or, All, refl, sym}
use Rattle.std.proofs.Common.{◌∙◌, inl, inr, arith}
use Rattle.std.specs.Prelude.{unwrap_or, Contains}
use Rattle.std.specs.Option.{ForSome}
use Rattle.std.specs.List.Sorted.{IsNonDecreasing, IsNonDecreasingBy}
use Rattle.std.proofs.Math.Nat.{mul-le-mul_left}
use Rattle.std.proofs.lemmas.Bool.{true≢false, eq-eqb, cases_lt}
use Rattle.std.proofs.lemmas.List.{get_or-map, length-map}
use Rattle.std.proofs.lemmas.List.Elements.{All-contains}
use Rattle.ats_num.specs.declared.time.TheConstants.{PS_PER_NS}
use Rattle.ats_topology.specs.Node.{is_station}
use Rattle.ats_topology.specs.Port.{port_at}
use Rattle.ats_topology.specs.Topology.{node_at}
use Rattle.ats_topology.specs.declared.port.Port.{Port}
use Rattle.ats_topology.specs.declared.node.Kind.{Kind}
use Rattle.ats_topology.specs.declared.node.Kind.TheVariants.{Station, Bridge}
use Rattle.ats_network.specs.Bridges.{IsBridgeAt}
use Rattle.ats_network.specs.Network.{DeclaredNetwork, senders_of}
use Rattle.ats_network.specs.Residence.{residence_at}
use Rattle.ats_network.specs.Senders.{sender_at, no_sender}
use Rattle.ats_certificate.specs.Certificate.{RowHolds, need_behind, residence_needed}
use Rattle.ats_certificate.specs.PortSums.{is_of, is_used, shortest}
use Rattle.ats_certificate.specs.declared.row.Row.{Row}
use Rattle.ats_streams.specs.Traffic.{is_declared_size}
use Rattle.ats_port_rule.specs.Transmission.{Transmission}
use Rattle.ats_port_rule.specs.PortRule.{KeepsPortRuleBy}
use Rattle.ats_port_law.specs.PortLaw.{IsDeclared, IsOfferedBy, IsWithinBound}
use Rattle.ats_port_law.proofs.Law.{law_by}
use Rattle.ats_port_law.proofs.Totals.{least_reaches}
use Rattle.ats_port_law.proofs.Used.{IsPlace, used_place}
use Rattle.ats_trace.specs.Journey.{Travel, class_at}
use Rattle.ats_trace.specs.Projections.{Crossing, Handed, sent_by, crossings_by}
use Rattle.ats_trace.specs.Links.{ArrivesWithin, KeepsLinkRule}
use Rattle.ats_trace.specs.Eligibility.{declared_by, residence_of_groups}
use Rattle.ats_soundness_law.proofs.Arrivals.{HasArrived, takes_time, leave_in_order}
use Rattle.ats_soundness_law.proofs.Known.{Case, size_of_bits}
use Rattle.ats_port_law.proofs.Senders.{is_stream}

-- a row that holds, of a port that leads to a bridge and is offered what it may be asked to send
pub record AtRow (network : DeclaredNetwork) (run : List Travel) (row : Row) : Type 0 where
  pub known : Case network run
  pub used : is_used network row.port row.class ≡ true
  pub within : row.port < length network.topology.ports
  pub bridge : IsBridgeAt network.topology (port_at network.topology.ports row.port).to
  pub shaped : 1 ≤ row.class
  pub holds : RowHolds network row
  pub offered : IsOfferedBy (known.told row.port) network row.port (sent_by network run row.port)

abbrev pub at_row : (network : DeclaredNetwork) (run : List Travel) (row : Row) → (c : Case network run)
    → is_used network row.port row.class ≡ true
    → IsBridgeAt network.topology (port_at network.topology.ports row.port).to → RowHolds network row
    → IsOfferedBy (c.told row.port) network row.port (sent_by network run row.port) → AtRow network run row
at_row network run row c used bridge holds offered =
    let place : IsPlace (length network.topology.ports) row.port row.class =
    used_place network row.port row.class c.net used in
    record {
      known = c;
      used = used;
      within = place.within;
      bridge = bridge;
      shaped = place.ranked;
      holds = holds;
      offered = offered;
    }

-- what a frame may need to stay is at most the residence of the bridge
stays : (kind : Kind) (need : ℕ) → is_station kind ≡ false → ForSome (residence_at kind) (λ ns. need ≤ PS_PER_NS * ns)
    → need ≤ PS_PER_NS * unwrap_or (residence_at kind) 0
stays Station need bridge may = absurd (true≢false bridge)
stays (Bridge processing_min_ns processing_max_ns residence_ns clock_ppm clock_step_ps) need bridge may =
    may residence_ns refl

-- the need of a row by the bridge's clock is within the residence
pub may_stay : (network : DeclaredNetwork) (run : List Travel) (row : Row) → AtRow network run row
    → need_behind network row.port row.wait ≤ PS_PER_NS * residence_of_groups network row.port
may_stay network run row a =
    let port : Port = port_at network.topology.ports row.port in
    stays (node_at network.topology.nodes port.to).kind (need_behind network row.port row.wait) a.bridge.bridge
    a.holds.residence

-- what is known of one frame of the class that the port hands on: when it came, and how long it is then until its bound
pub record OnTime (network : DeclaredNetwork) (row : Row) (h : Handed) : Type 0 where
  pub arrives : h.crossing.arrival ≤ h.crossing.sent.eligible + row.bound
  pub needs : h.crossing.sent.eligible + row.bound
      ≤ h.crossing.arrival + residence_needed (port_at network.topology.ports row.port) row.wait
  pub size : is_declared_size (declared_by network h.crossing.sent.sender) h.crossing.octets ≡ true
  pub exists : h.crossing.sent.sender < length (senders_of network)
  pub stream : h.crossing.sent.sender < length network.streams
  pub shaped : 1 ≤ class_at (sender_at network h.crossing.sent.sender) row.port

-- the frame arrives no sooner than its transmission and the earliest latency allow, which are no less than the bound
-- without the wait
pub on_time : (network : DeclaredNetwork) (run : List Travel) (row : Row) → AtRow network run row → (h : Handed)
    → HasArrived network run row.port row.class h → OnTime network row h
on_time network run row a h came =
    let port : Port = port_at network.topology.ports row.port in
    let ps : ℕ = port.ps_per_bit in
    let sent : List Transmission = sent_by network run row.port in
    let x : Transmission = h.crossing.sent in
    let rule : KeepsPortRuleBy (a.known.told row.port) ps sent = a.known.ports row.port a.within in
    let link : KeepsLinkRule port (crossings_by network run row.port) = a.known.links row.port a.within in
    let in_time : ArrivesWithin port.earliest.0 port.latency.0 h.crossing =
    All-contains (ArrivesWithin port.earliest.0 port.latency.0) (crossings_by network run row.port)
    h.crossing link.within came.crossed in
    let declared : IsDeclared network row.port x =
    All-contains (IsDeclared network row.port) sent x a.offered.offered.each came.sent in
    let within : IsWithinBound network row x = All-contains (IsWithinBound network row) sent x
    (law_by (a.known.told row.port) network row sent a.known.net a.used a.holds.covers rule a.offered) came.sent in
    let waits = All-contains (λ (y : Transmission). y.eligible ≤ y.start) sent x rule.waits came.sent in
    let takes = All-contains (λ (y : Transmission). y.end ≡ y.start + ps * y.bits) sent x rule.takes came.sent in
    let class : class_at (sender_at network x.sender) row.port ≡ row.class = sym declared.class ∙ came.class_is in
    let reaches = least_reaches network.topology row.port (is_of row.class) shortest (senders_of network)
    x.sender no_sender declared.exists declared.uses
    (eq-eqb (class_at (sender_at network x.sender) row.port) row.class class) in
    let least : row.least ≤ x.bits = omega (arith, reaches, a.holds.covers.sums.least, declared.least) in
    let product : ps * row.least ≤ ps * x.bits = mul-le-mul_left ps least in
    let ranked : 1 ≤ class_at (sender_at network x.sender) row.port = omega (arith, class, a.shaped) in
    record {
      arrives = omega (arith, in_time.latest, within came.class_is);
      needs = omega (arith, in_time.earliest, waits, takes, product, a.holds.covers.bound);
      size = size_of_bits network x.sender h.crossing.octets (omega (arith, declared.least, came.told.bits))
          (omega (arith, declared.most, came.told.bits));
      exists = declared.exists;
      stream = is_stream network row.port x.sender declared.exists ranked;
      shaped = ranked;
    }

-- of two frames of a port, the one that arrives first ended first
ends_first : (port : Port) (crossings : List Crossing) → KeepsLinkRule port crossings → (x y : Crossing)
    → Contains crossings x → Contains crossings y
    → x.arrival ≤ y.arrival → x.sent.end ≤ y.sent.end
ends_first port crossings link x y cx cy before = elim (cases_lt y.sent.end x.sent.end) [
  | inl after ↦ (
      let Follows : Crossing → Crossing → Type 0 = λ (a b : Crossing). a.sent.end < b.sent.end
      → a.arrival < b.arrival in
      let behind : All (Follows y) crossings =
      All-contains (λ (a : Crossing). All (Follows a) crossings) crossings y link.order cy in
      let less : y.arrival < x.arrival = All-contains (Follows y) crossings x behind cx after in
      absurd (omega arith))
  | inr no_later ↦ no_later
]

-- the frames come in the order of the times that they were told at the port
pub in_order : (network : DeclaredNetwork) (run : List Travel) (row : Row) → (a : AtRow network run row)
    → (arrivals : List Handed) → All (HasArrived network run row.port row.class) arrivals
    → IsNonDecreasing (map (λ (h : Handed). h.crossing.arrival) arrivals)
    → IsNonDecreasingBy (λ (h : Handed). a.known.told row.port h.crossing.sent) arrivals
in_order network run row a arrivals came ascends i j d le within =
    let x : Handed = get_or arrivals i d in
    let y : Handed = get_or arrivals j d in
    let cx : HasArrived network run row.port row.class x = came i d (omega arith) in
    let cy : HasArrived network run row.port row.class y = came j d within in
    let times = ascends i j 0 le (omega (arith, within, length-map arrivals (λ (h : Handed). h.crossing.arrival))) in
    let time_x = get_or-map (λ (h : Handed). h.crossing.arrival) arrivals i d 0 (omega arith) in
    let time_y = get_or-map (λ (h : Handed). h.crossing.arrival) arrivals j d 0 within in
    let ends : x.crossing.sent.end ≤ y.crossing.sent.end =
    ends_first (port_at network.topology.ports row.port) (crossings_by network run row.port)
    (a.known.links row.port a.within) x.crossing y.crossing cx.crossed cy.crossed
    (omega (arith, times, time_x, time_y)) in
    leave_in_order (port_at network.topology.ports row.port).ps_per_bit (sent_by network run row.port)
    (a.known.ports row.port a.within) (takes_time network run row.port a.known a.within a.offered.offered)
    a.offered.in_order x.crossing.sent y.crossing.sent cx.sent cy.sent (cx.class_is ∙ sym cy.class_is) ends
