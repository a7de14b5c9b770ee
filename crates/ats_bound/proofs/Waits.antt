use Rattle.std.proofs.Common.{◌≡◌, ℕ, ◌+◌, ◌-◌, ◌*◌, ◌≤◌, refl, ap, ◌∙◌, arith}
use Rattle.std.proofs.Math.Nat.{mul-le-mul_left}
use Rattle.ats_num.specs.Division.{IsCeiling}
use Rattle.ats_num.specs.declared.time.TheConstants.{PS_PER_SECOND}
use Rattle.ats_topology.specs.Port.{port_at}
use Rattle.ats_topology.specs.declared.port.Port.{Port}
use Rattle.ats_network.specs.Network.{DeclaredNetwork, senders_of}
use Rattle.ats_network.specs.Class.{PortSender}
use Rattle.ats_certificate.specs.PortSums.{PortSums, port_sums, is_of, sum_where, senders_at}
use Rattle.ats_certificate.specs.Certificate.{Covers, HasSums, bound_of}
use Rattle.ats_certificate.specs.Least.{IsLeastRow}
use Rattle.ats_certificate.specs.declared.row.Row.{Row}
use Rattle.ats_tally.specs.Waits.{least_wait}
use Rattle.ats_bound.specs.Least.{least_row}
use Rattle.ats_bound.specs.Reason.{load_at}
use Rattle.ats_num.proofs.Ceiling.{ceiling-is}
use Rattle.ats_tally.proofs.Places.{IsPlace}

-- the load of a place is within its link
abbrev pub Fits : DeclaredNetwork → ℕ → ℕ → Type 0
Fits network port class = load_at network (port, class) ≤ PS_PER_SECOND

-- the wire bits that a wait covers, as the time in which they are sent, and what the higher classes leave of a second
abbrev pub work : Port → PortSums → ℕ
work port sums = PS_PER_SECOND * (port.ps_per_bit * (sums.lower + sums.bursts - sums.least))

-- the class itself takes some of the link, so the higher classes leave some
pub remains : (network : DeclaredNetwork) (port class : ℕ) → IsPlace network port class → Fits network port class
    → 1 ≤ PS_PER_SECOND - (port_sums network port class).higher
remains network port class at fits =
    let rate : ℕ = sum_where (is_of class) (λ (s : PortSender). s.rate)
    (senders_at network.topology port (senders_of network)) in
    let ps : ℕ = (port_at network.topology.ports port).ps_per_bit in
    let some : ps * 1 ≤ ps * rate = mul-le-mul_left ps at.rate in
    omega (arith, some, at.is_port.rate.least, fits)

pub least_wait-is : (network : DeclaredNetwork) (port class : ℕ) → IsPlace network port class → Fits network port class
    → IsCeiling (work (port_at network.topology.ports port) (port_sums network port class))
    (PS_PER_SECOND - (port_sums network port class).higher) (least_row network (port, class)).wait
least_wait-is network port class at fits =
    ceiling-is (work (port_at network.topology.ports port) (port_sums network port class))
    (PS_PER_SECOND - (port_sums network port class).higher) (remains network port class at fits)

-- the computed row is the least
pub least_row-is : (network : DeclaredNetwork) (port class : ℕ) → IsPlace network port class → Fits network port class
    → IsLeastRow network (least_row network (port, class))
least_row-is network port class at fits =
    let c = least_wait-is network port class at fits in
    record {
      covers = record {
        sums = record { higher = refl; equal = refl; bursts = refl; lower = refl; least = refl };
        bound = refl;
        load = fits;
        wait = c.reaches;
      };
      least = λ wait enough. c.least wait enough;
    }

-- the load of a row is that of its place
pub load-is : (network : DeclaredNetwork) (row : Row) → Covers network row → Fits network row.port row.class
load-is network row covers = omega (arith, covers.load, covers.sums.higher, covers.sums.equal)

-- what the wait of a row must reach
pub work-is : (network : DeclaredNetwork) (row : Row) → HasSums row (port_sums network row.port row.class)
    → PS_PER_SECOND * ((port_at network.topology.ports row.port).ps_per_bit * (row.lower + row.bursts - row.least))
    ≡ work (port_at network.topology.ports row.port) (port_sums network row.port row.class)
work-is network row sums =
    ap (λ (n : ℕ). PS_PER_SECOND
    * ((port_at network.topology.ports row.port).ps_per_bit * (n + row.bursts - row.least))) sums.lower
    ∙ ap (λ (n : ℕ). PS_PER_SECOND * ((port_at network.topology.ports row.port).ps_per_bit
    * ((port_sums network row.port row.class).lower + n - row.least))) sums.bursts
    ∙ ap (λ (n : ℕ). PS_PER_SECOND * ((port_at network.topology.ports row.port).ps_per_bit
    * ((port_sums network row.port row.class).lower + (port_sums network row.port row.class).bursts - n)))
    sums.least

-- the least wait is at most that of each row that covers its place
pub least_wait-le : (network : DeclaredNetwork) (row : Row) → IsPlace network row.port row.class → Covers network row
    → (least_row network (row.port, row.class)).wait ≤ row.wait
least_wait-le network row at covers =
    let c = least_wait-is network row.port row.class at (load-is network row covers) in
    let long = work-is network row covers.sums in
    let higher = ap (λ (n : ℕ). row.wait * (PS_PER_SECOND - n)) covers.sums.higher in
    c.least row.wait (omega (arith, covers.wait, long, higher))

-- and so is the least bound
pub least_bound-le : (network : DeclaredNetwork) (row : Row) → IsPlace network row.port row.class → Covers network row
    → (least_row network (row.port, row.class)).bound ≤ row.bound
least_bound-le network row at covers =
    let shorter = least_wait-le network row at covers in
    let sent = ap (λ (n : ℕ). (port_at network.topology.ports row.port).ps_per_bit * n) covers.sums.least in
    omega (arith, shorter, sent, covers.bound)

row_is : (row : Row) (higher equal bursts lower least wait bound : ℕ) → row.higher ≡ higher → row.equal ≡ equal
    → row.bursts ≡ bursts → row.lower ≡ lower → row.least ≡ least → row.wait ≡ wait → row.bound ≡ bound
    → row ≡ record {
      port = row.port;
      class = row.class;
      higher = higher;
      equal = equal;
      bursts = bursts;
      lower = lower;
      least = least;
      wait = wait;
      bound = bound;
    }
row_is row higher equal bursts lower least wait bound a b c d e f g =
    ap (λ (n : ℕ). record row { higher = n }) a
    ∙ ap (λ (n : ℕ). record row { higher = higher; equal = n }) b
    ∙ ap (λ (n : ℕ). record row { higher = higher; equal = equal; bursts = n }) c
    ∙ ap (λ (n : ℕ). record row { higher = higher; equal = equal; bursts = bursts; lower = n }) d
    ∙ ap (λ (n : ℕ). record row { higher = higher; equal = equal; bursts = bursts; lower = lower; least = n }) e
    ∙ ap (λ (n : ℕ).
    record row { higher = higher; equal = equal; bursts = bursts; lower = lower; least = least; wait = n }) f
    ∙ ap (λ (n : ℕ). record row {
      higher = higher;
      equal = equal;
      bursts = bursts;
      lower = lower;
      least = least;
      wait = wait;
      bound = n;
    }) g

-- no other row of its place is the least
pub least_row-only : (network : DeclaredNetwork) (row : Row) → IsPlace network row.port row.class
    → IsLeastRow network row → row ≡ least_row network (row.port, row.class)
least_row-only network row at is =
    let port : Port = port_at network.topology.ports row.port in
    let sums : PortSums = port_sums network row.port row.class in
    let has : HasSums row sums = is.covers.sums in
    let fits : Fits network row.port row.class = load-is network row is.covers in
    let down = least_wait-le network row at is.covers in
    let c = least_wait-is network row.port row.class at fits in
    let long = work-is network row has in
    let higher = ap (λ (n : ℕ). least_wait port sums * (PS_PER_SECOND - n)) has.higher in
    let up : row.wait ≤ least_wait port sums =
    is.least (least_wait port sums) (omega (arith, c.reaches, long, higher)) in
    let wait : row.wait ≡ least_wait port sums = omega (arith, down, up) in
    let bound : row.bound ≡ bound_of port (least_wait port sums) sums.least =
    is.covers.bound ∙ ap (λ (n : ℕ). bound_of port n row.least) wait
    ∙ ap (λ (n : ℕ). bound_of port (least_wait port sums) n) has.least in
    row_is row sums.higher sums.equal sums.bursts sums.lower sums.least (least_wait port sums)
    (bound_of port (least_wait port sums) sums.least)
    has.higher has.equal has.bursts has.lower has.least wait bound
