use Rattle.std.proofs.Common.{◌≡◌, ℕ, ◌+◌, ◌<◌, ◌≤◌, Bool, true, cond, List, [], ◌∷◌, length, get_or, All, sym, ap, ◌∙◌}
use Rattle.std.proofs.Common.{subst, inl, inr, Option, Some, arith}
use Rattle.std.specs.Prelude.{find, is_some, IsSome, unwrap_or, ◌==◌}
use Rattle.std.specs.Option.{option_map}
use Rattle.std.proofs.lemmas.Bool.{cases_Bool, and_parts, eqb-true, false≢true}
use Rattle.std.proofs.lemmas.List.Elements.{All-head, All-tail, All-contains, All-weaker}
use Rattle.ats_topology.specs.Port.{port_at}
use Rattle.ats_network.specs.Bridges.{IsBridgeAt}
use Rattle.ats_network.specs.Network.{DeclaredNetwork}
use Rattle.ats_certificate.specs.PortSums.{is_used}
use Rattle.ats_certificate.specs.Certificate.{is_row_of, row_of, bound_at, RowHolds}
use Rattle.ats_certificate.specs.declared.row.Row.{Row}
use Rattle.ats_port_rule.specs.Transmission.{Transmission}
use Rattle.ats_port_law.specs.PortLaw.{IsOfferedBy, IsWithinBound}
use Rattle.ats_port_law.proofs.Law.{law_by}
use Rattle.ats_trace.specs.Journey.{Travel}
use Rattle.ats_trace.specs.Projections.{Crossing, Handed, sent_by, crossings_by, handed_by}
use Rattle.ats_trace.specs.Links.{KeepsLinkRule}
use Rattle.ats_soundness_law.specs.Laws.{IsHandedOn}
use Rattle.ats_soundness_law.specs.Sound.{IsEligibleBy}
use Rattle.ats_soundness_law.proofs.Known.{Case}
use Rattle.ats_soundness_law.proofs.Arrivals.{crossed_there}

-- the first element that passes a test
record Found {X : Type 0} (test : X → Bool) (P : X → Type 0) (xs : List X) : Type 0 where
  one : X
  is : find test xs ≡ Some one
  passes : test one ≡ true
  holds : P one

found : {X : Type 0} (test : X → Bool) (P : X → Type 0) (xs : List X) → All P xs → is_some (find test xs) ≡ true
    → Found test P xs
found test P [] all some = absurd (false≢true some)
found {X} test P (x ∷ xs) all some =
    let Some_of : Bool → Type 0 = λ (b : Bool). is_some (cond b (Some x) (find test xs)) ≡ true in
    elim (cases_Bool (test x)) as (λ _. Found test P (x ∷ xs)) [
      | inl e ↦ record {
        one = x;
        is = ap (λ (b : Bool). cond b (Some x) (find test xs)) e;
        passes = e;
        holds = All-head P x xs all;
      }
      | inr e ↦ (
          let later : Found test P xs = found test P xs (All-tail P x xs all) (subst Some_of e some) in
          record {
            one = later.one;
            is = ap (λ (b : Bool). cond b (Some x) (find test xs)) e ∙ later.is;
            passes = later.passes;
            holds = later.holds;
          })
    ]

-- what bounds rest on: each port and class that some stream uses has its row, and each row holds
pub record RowsHold (network : DeclaredNetwork) (rows : List Row) : Type 0 where
  pub complete : (port class : ℕ) → is_used network port class ≡ true → IsSome (row_of rows port class)
  pub each : All (RowHolds network) rows

-- a port serves a class: each frame arrives behind it within the certificate's bound, and is eligible there within it
pub record Serves (network : DeclaredNetwork) (run : List Travel) (rows : List Row) (class port : ℕ) : Type 0 where
  pub arrives : All (λ (c : Crossing). c.sent.class ≡ class → c.arrival ≤ c.sent.eligible + bound_at rows port class)
      (crossings_by network run port)
  pub free : IsBridgeAt network.topology (port_at network.topology.ports port).to
      → All (λ (h : Handed). IsEligibleBy (h.crossing.sent.eligible + bound_at rows port class) (λ e. Unit {0})
      h.verdict) (handed_by network run port class)

-- a run in which ports whose nodes keep something are offered what they may be asked to send, and shaping is free
-- behind them
pub record Promises (Keeps : ℕ → Type 0) (network : DeclaredNetwork) (run : List Travel) : Type 0 where
  pub case : Case network run
  pub offered : (port : ℕ) → port < length network.topology.ports
      → Keeps (port_at network.topology.ports port).from
      → IsOfferedBy (case.told port) network port (sent_by network run port)
  pub free : (row : Row) → is_used network row.port row.class ≡ true
      → IsBridgeAt network.topology (port_at network.topology.ports row.port).to → RowHolds network row
      → Keeps (port_at network.topology.ports row.port).from
      → All (IsHandedOn row) (handed_by network run row.port row.class)

-- where a row holds, the port of the row serves its class
record ByRow (network : DeclaredNetwork) (run : List Travel) (row : Row) (port class : ℕ) : Type 0 where
  arrives : All (λ (c : Crossing). c.sent.class ≡ row.class → c.arrival ≤ c.sent.eligible + row.bound)
      (crossings_by network run port)
  free : IsBridgeAt network.topology (port_at network.topology.ports port).to
      → All (IsHandedOn row) (handed_by network run port class)

by_row : {Keeps : ℕ → Type 0} (network : DeclaredNetwork) (run : List Travel) (row : Row) → Promises Keeps network run
    → row.port < length network.topology.ports → is_used network row.port row.class ≡ true → RowHolds network row
    → Keeps (port_at network.topology.ports row.port).from → ByRow network run row row.port row.class
by_row network run row p within used holds keeps =
    let sent : List Transmission = sent_by network run row.port in
    let crossings : List Crossing = crossings_by network run row.port in
    let link : KeepsLinkRule (port_at network.topology.ports row.port) crossings =
    p.case.links row.port within in
    let each : All (IsWithinBound network row) sent =
    law_by (p.case.told row.port) network row sent p.case.net used holds.covers (p.case.ports row.port within)
    (p.offered row.port within keeps) in
    record {
      arrives = λ k d h class. (
          let one : Crossing = get_or crossings k d in
          let bound = All-contains (IsWithinBound network row) sent one.sent each
          (crossed_there network run row.port k d h) class in
          omega (arith, (link.within k d h).latest, bound));
      free = λ bridge. p.free row used bridge holds keeps;
    }

-- so each port that is offered what it may be asked to send serves the classes that are used there
pub serves : {Keeps : ℕ → Type 0} (network : DeclaredNetwork) (run : List Travel) (rows : List Row)
    → Promises Keeps network run → RowsHold network rows → (class port : ℕ) → port < length network.topology.ports
    → is_used network port class ≡ true → Keeps (port_at network.topology.ports port).from
    → Serves network run rows class port
serves {Keeps} network run rows promises holds class port within used keeps =
    let f : Found (is_row_of port class) (RowHolds network) rows =
    found (is_row_of port class) (RowHolds network) rows holds.each (holds.complete port class used) in
    let row : Row = f.one in
    let parts = and_parts (row.port == port) (row.class == class) f.passes in
    let port_is : row.port ≡ port = eqb-true row.port port parts.0 in
    let class_is : row.class ≡ class = eqb-true row.class class parts.1 in
    let bound_is : bound_at rows port class ≡ row.bound =
    ap (λ (o : Option Row). unwrap_or (option_map (λ (row : Row). row.bound) o) 0) f.is in
    let Asked : ℕ → Type 0 = λ (p : ℕ). (p < length network.topology.ports) × (is_used network p row.class ≡ true)
    × Keeps (port_at network.topology.ports p).from in
    let there : Asked row.port = subst Asked (sym port_is)
    (within, subst (λ (n : ℕ). is_used network port n ≡ true) (sym class_is) used, keeps) in
    let own : ByRow network run row row.port row.class =
    by_row network run row promises there.0 there.1 f.holds there.2 in
    let by : ByRow network run row port class = subst (λ (p : ℕ). ByRow network run row p class) port_is
    (subst (λ (n : ℕ). ByRow network run row row.port n) class_is own) in
    record {
      arrives = λ k d h same. (let le = by.arrives k d h (same ∙ sym class_is) in omega (arith, le, bound_is));
      free = λ bridge. All-weaker (IsHandedOn row)
          (λ (h : Handed). IsEligibleBy (h.crossing.sent.eligible + bound_at rows port class) (λ e. Unit {0}) h.verdict)
          (λ h on. subst (λ (n : ℕ). IsEligibleBy (h.crossing.sent.eligible + n) (λ e. Unit {0}) h.verdict)
          (sym bound_is) on)
          (handed_by network run port class) (by.free bridge);
    }
