use Rattle.std.proofs.Common.{◌≡◌, ℕ, ◌+◌, ◌*◌, ◌≤◌, true, List, length, get_or, All, sym, ap}
use Rattle.std.proofs.Common.{◌∙◌}
use Rattle.std.proofs.Common.{subst, arith}
use Rattle.std.specs.Prelude.{◌==◌, is_some, Contains}
use Rattle.std.proofs.Math.Nat.{mul-le-mul_left}
use Rattle.std.proofs.lemmas.Bool.{eq-eqb, eqb-true, false≢true}
use Rattle.std.proofs.lemmas.List.Elements.{All-contains, All-weaker, filter_passes}
use Rattle.ats_topology.specs.Port.{port_at, no_port}
use Rattle.ats_topology.specs.declared.port.Port.{Port}
use Rattle.ats_topology.proofs.Rules.{ports_are_lawful}
use Rattle.ats_network.specs.Bridges.{IsBridgeAt}
use Rattle.ats_network.specs.Network.{DeclaredNetwork, senders_of}
use Rattle.ats_network.specs.Senders.{sender_at, no_sender}
use Rattle.ats_certificate.specs.PortSums.{is_used, is_of, shortest, port_sums}
use Rattle.ats_certificate.specs.Certificate.{row_of, bound_at, RowHolds, Holds}
use Rattle.ats_certificate.specs.declared.row.Row.{Row}
use Rattle.ats_port_rule.specs.Transmission.{Transmission}
use Rattle.ats_port_rule.specs.PortRule.{KeepsPortRuleBy}
use Rattle.ats_port_law.specs.PortLaw.{IsDeclared, IsOffered, IsWithinBound}
use Rattle.ats_port_law.proofs.Law.{law_by}
use Rattle.ats_port_law.proofs.Totals.{least_reaches}
use Rattle.ats_port_law.proofs.Used.{IsPlace, used_place}
use Rattle.ats_trace.specs.Journey.{Travel, class_at}
use Rattle.ats_trace.specs.Links.{ArrivesWithin, KeepsLinkRule}
use Rattle.ats_trace.specs.Projections.{Crossing, Handed, sent_by, crossings_from, crossings_by, handed_by}
use Rattle.ats_soundness_law.specs.Sound.{IsEligibleBy}
use Rattle.ats_soundness_law.proofs.Arrivals.{HasArrived, arrived}
use Rattle.ats_soundness_law.proofs.Known.{Case}
use Rattle.ats_soundness_law.proofs.Serving.{Promises, Serves, serves}
use Rattle.ats_buffer.specs.Buffer.{of_row, stay_of, stay_at, way_by}
use Rattle.ats_buffer_law.proofs.Fed.{IsKept}
use Rattle.ats_buffer.proofs.Found.{IsFound, none, some, found, by_found}

-- the row of a port and class, of a certificate that holds, and what it says there
pub record HasRow (network : DeclaredNetwork) (rows : List Row) (port class : ℕ) : Type 0 where
  pub row : Row
  pub port_is : row.port ≡ port
  pub class_is : row.class ≡ class
  pub holds : RowHolds network row
  pub wait : of_row (λ (r : Row). r.wait) rows port class ≡ row.wait
  pub bound : bound_at rows port class ≡ row.bound
  pub stay : stay_at network rows port class
      ≡ row.wait + (port_at network.topology.ports port).ps_per_bit * row.least

by_row : (network : DeclaredNetwork) (rows : List Row) (port class : ℕ) → is_some (row_of rows port class) ≡ true
    → IsFound (RowHolds network) rows port class → HasRow network rows port class
by_row network rows port class there (none e) = absurd (false≢true (sym (ap is_some e) ∙ there))
by_row network rows port class there (some row e port_is class_is holds) = record {
  row = row;
  port_is = port_is;
  class_is = class_is;
  holds = holds;
  wait = by_found (λ (r : Row). r.wait) rows port class row e;
  bound = by_found (λ (r : Row). r.bound) rows port class row e;
  stay = by_found (stay_of (port_at network.topology.ports port)) rows port class row e;
}

pub has_row : (network : DeclaredNetwork) (rows : List Row) (port class : ℕ) → Holds network rows
    → is_used network port class ≡ true → HasRow network rows port class
has_row network rows port class holds used =
    by_row network rows port class (holds.rows_of.complete port class used)
    (found (RowHolds network) rows port class holds.each)

-- each transmission of the class ends within the stay
pub record IsBrief (network : DeclaredNetwork) (rows : List Row) (port class : ℕ) (x : Transmission) : Type 0 where
  pub ends : x.class ≡ class → x.end ≤ x.eligible + stay_at network rows port class

pub all_brief : {Keeps : ℕ → Type 0} (network : DeclaredNetwork) (rows : List Row) (run : List Travel)
    (port class : ℕ) → Promises Keeps network run → Holds network rows → is_used network port class ≡ true
    → IsKept Keeps network port → All (IsBrief network rows port class) (sent_by network run port)
all_brief {Keeps} network rows run port class p holds used kept =
    let r : HasRow network rows port class = has_row network rows port class holds used in
    let row : Row = r.row in
    let Asked : ℕ → Type 0 = λ (q : ℕ). (is_used network q row.class ≡ true) × IsKept Keeps network q in
    let there : Asked row.port = subst Asked (sym r.port_is)
    (subst (λ (n : ℕ). is_used network port n ≡ true) (sym r.class_is) used, kept) in
    let place : IsPlace (length network.topology.ports) row.port row.class =
    used_place network row.port row.class p.case.net there.0 in
    let each : All (IsWithinBound network row) (sent_by network run row.port) =
    law_by (p.case.told row.port) network row (sent_by network run row.port) p.case.net there.0 r.holds.covers
    (p.case.ports row.port place.within) (p.offered row.port place.within there.1) in
    let Within : ℕ → Transmission → Type 0 = λ (p : ℕ) (x : Transmission). x.class ≡ row.class
    → x.end + (port_at network.topology.ports p).latency.0 ≤ x.eligible + row.bound in
    let here : All (Within port) (sent_by network run port) =
    subst (λ (p : ℕ). All (Within p) (sent_by network run p)) r.port_is each in
    let bound = r.holds.covers.bound in
    let same = ap (λ (p : ℕ). (port_at network.topology.ports p).ps_per_bit * row.least) r.port_is in
    let late = ap (λ (p : ℕ). (port_at network.topology.ports p).latency.0) r.port_is in
    All-weaker (Within port) (IsBrief network rows port class)
    (λ x within. record {
      ends = λ class. (let le = within (class ∙ sym r.class_is) in omega (arith, le, bound, same, late, r.stay));
    })
    (sent_by network run port) here

-- a frame of the class that the port hands on to a bridge: it is eligible there within the bound, and came there no
-- sooner than the stay without the wait, and the earliest latency, allow
pub record IsTimely (network : DeclaredNetwork) (rows : List Row) (port class : ℕ) (h : Handed) : Type 0 where
  pub soonest : ℕ
  pub eligible : IsEligibleBy (h.crossing.sent.eligible + bound_at rows port class) (λ e. Unit {0}) h.verdict
  pub after : h.crossing.sent.eligible + soonest ≤ h.crossing.arrival
  pub window : bound_at rows port class ≡ soonest + way_by network rows port class

-- a crossing of a port is of that port
crossings_port : (network : DeclaredNetwork) (run : List Travel) (port : ℕ) (c : Crossing)
    → Contains (crossings_by network run port) c → c.port ≡ port
crossings_port network run port c there =
    All-contains (λ (x : Crossing). x.port ≡ port) (crossings_by network run port) c
    (λ k d h. eqb-true (get_or (crossings_by network run port) k d).port port
    (filter_passes (λ (x : Crossing). x.port == port) (crossings_from network 0 run) k d h)) there

one_timely : (network : DeclaredNetwork) (rows : List Row) (run : List Travel) (port class : ℕ)
    → Case network run → Holds network rows → is_used network port class ≡ true
    → IsOffered network port (sent_by network run port)
    → (h : Handed) → HasArrived network run port class h
    → IsEligibleBy (h.crossing.sent.eligible + bound_at rows port class) (λ e. Unit {0}) h.verdict
    → IsTimely network rows port class h
one_timely network rows run port class c holds used offered h came eligible =
    let p : Port = port_at network.topology.ports port in
    let ps : ℕ = p.ps_per_bit in
    let sent : List Transmission = sent_by network run port in
    let x : Transmission = h.crossing.sent in
    let place : IsPlace (length network.topology.ports) port class = used_place network port class c.net used in
    let r : HasRow network rows port class = has_row network rows port class holds used in
    let rule : KeepsPortRuleBy (c.told port) ps sent = c.ports port place.within in
    let link : KeepsLinkRule p (crossings_by network run port) = c.links port place.within in
    let in_time : ArrivesWithin p.earliest.0 p.latency.0 h.crossing =
    All-contains (ArrivesWithin p.earliest.0 p.latency.0) (crossings_by network run port) h.crossing link.within
    came.crossed in
    let declared : IsDeclared network port x =
    All-contains (IsDeclared network port) sent x offered.each came.sent in
    let waits = All-contains (λ (y : Transmission). y.eligible ≤ y.start) sent x rule.waits came.sent in
    let takes = All-contains (λ (y : Transmission). y.end ≡ y.start + ps * y.bits) sent x rule.takes came.sent in
    let ranked : class_at (sender_at network x.sender) port ≡ class = sym declared.class ∙ came.class_is in
    let reaches = least_reaches network.topology port (is_of class) shortest (senders_of network) x.sender no_sender
    declared.exists declared.uses (eq-eqb (class_at (sender_at network x.sender) port) class ranked) in
    let row_least : r.row.least ≡ (port_sums network port class).least =
    r.holds.covers.sums.least ∙ ap (λ (n : ℕ). (port_sums network n r.row.class).least) r.port_is
    ∙ ap (λ (n : ℕ). (port_sums network port n).least) r.class_is in
    let least : r.row.least ≤ x.bits = omega (arith, reaches, row_least, declared.least) in
    let product : ps * r.row.least ≤ ps * x.bits = mul-le-mul_left ps least in
    let same = ap (λ (n : ℕ). (port_at network.topology.ports n).ps_per_bit * r.row.least) r.port_is in
    let late = ap (λ (n : ℕ). (port_at network.topology.ports n).latency.0) r.port_is in
    let lawful = (ports_are_lawful network.topology c.net.topology).each port no_port place.within in
    record {
      soonest = ps * r.row.least + p.earliest.0;
      eligible = eligible;
      after = omega (arith, in_time.earliest, waits, takes, product);
      window = omega (arith, r.bound, r.wait, r.holds.covers.bound, same, late, lawful.ordered);
    }

-- so each one
pub all_timely : {Keeps : ℕ → Type 0} (network : DeclaredNetwork) (rows : List Row) (run : List Travel)
    (port class : ℕ) → Promises Keeps network run → Holds network rows → is_used network port class ≡ true
    → IsKept Keeps network port
    → All (IsTimely network rows port class) (handed_by network run port class)
all_timely network rows run port class p holds used kept k d h =
    let place : IsPlace (length network.topology.ports) port class = used_place network port class p.case.net used in
    let one : Handed = get_or (handed_by network run port class) k d in
    let came : HasArrived network run port class one = arrived network run port class p.case k d h in
    let served : Serves network run rows class port =
    serves network run rows p (record { complete = holds.rows_of.complete; each = holds.each }) class port place.within
    used kept in
    let crossed = crossings_port network run port one.crossing came.crossed in
    let bridge : IsBridgeAt network.topology (port_at network.topology.ports port).to =
    subst (λ (p : ℕ). IsBridgeAt network.topology (port_at network.topology.ports p).to) crossed came.told.bridge in
    one_timely network rows run port class p.case holds used (p.offered port place.within kept).offered one came
    (served.free bridge k d h)
