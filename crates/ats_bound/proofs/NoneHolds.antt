use Rattle.std.proofs.Common.{◌≡◌, ℕ, ◌≤◌, true, List, get_or, Option, Some, None, refl, sym, ap, subst, ◌∙◌, inl, inr}
use Rattle.std.proofs.Common.{eqb, arith}
use Rattle.std.specs.Prelude.{is_some, unwrap_or}
use Rattle.std.specs.List.{All}
use Rattle.std.specs.Option.{option_or, option_map}
use Rattle.std.proofs.lemmas.Bool.{and_parts, eqb-true, true≢false}
use Rattle.std.proofs.lemmas.List.Elements.{All-map}
use Rattle.std.proofs.lemmas.List.Sums.{sum_by-le-sum_by}
use Rattle.std.proofs.lemmas.Option.{none-some}
use Rattle.ats_streams.specs.Branches.{routes_of}
use Rattle.ats_streams.specs.Stream.{DeclaredStream}
use Rattle.ats_network.specs.Sender.{Sender, stream_sender}
use Rattle.ats_network.specs.Class.{class_at}
use Rattle.ats_network.specs.Network.{DeclaredNetwork, IsNetwork}
use Rattle.ats_certificate.specs.PortSums.{is_used}
use Rattle.ats_certificate.specs.Used.{places_of}
use Rattle.ats_certificate.specs.Certificate.{Holds, RowHolds, MayStay, IsInTime, is_row_of, row_of, bound_at}
use Rattle.ats_certificate.specs.Certificate.{bound_of_hop}
use Rattle.ats_certificate.specs.declared.row.Row.{Row}
use Rattle.ats_bound.specs.Least.{least_row, least_certificate}
use Rattle.ats_tally.proofs.NeedParts.{need_grows}
use Rattle.ats_tally.specs.Reason.{first_some, overstay, row_need, late}
use Rattle.ats_bound.specs.Reason.{reason_of, overload}
use Rattle.ats_bound.specs.Laws.{ReasonLeavesNone}
use Rattle.ats_tally.specs.declared.reason.Reason.{Reason}
use Rattle.ats_tally.proofs.Lists.{All-found, IsFound, found_is, option_cases, first_some-none}
use Rattle.ats_tally.proofs.Places.{IsPlace, is_place, places_used}
use Rattle.ats_bound.proofs.Waits.{Fits, load-is, least_wait-le, least_bound-le}
use Rattle.ats_network.specs.Residence.{residence_after}
use Rattle.ats_tally.proofs.Reasons.{by_stay, by_time}
use Rattle.ats_bound.proofs.Reasons.{overload-none}

-- a row of a certificate that holds, for a port and a class
pub record IsHeld (network : DeclaredNetwork) (rows : List Row) (port class : ℕ) : Type 0 where
  pub row : Row
  pub found : row_of rows port class ≡ Some row
  pub holds : RowHolds network row
  pub port_is : row.port ≡ port
  pub class_is : row.class ≡ class

pub no_none : {X : Type 0} (o : Option X) → o ≡ None → is_some o ≡ true → ⊥
no_none {X} o e h = absurd (true≢false (sym h ∙ ap (λ (p : Option X). is_some p) e))

pub row_at : (row : Row) (port class : ℕ) → is_row_of port class row ≡ true → (row.port ≡ port) × (row.class ≡ class)
row_at row port class h =
    let parts = and_parts (eqb row.port port) (eqb row.class class) h in
    (eqb-true row.port port parts.0, eqb-true row.class class parts.1)

pub held : (network : DeclaredNetwork) (rows : List Row) (port class : ℕ) → Holds network rows
    → is_used network port class ≡ true → IsHeld network rows port class
held network rows port class h used =
    elim (option_cases (row_of rows port class)) as (λ _. IsHeld network rows port class) [
      | inl none ↦ absurd (no_none (row_of rows port class) none (h.rows_of.complete port class used))
      | inr some ↦ (
          let f : IsFound (is_row_of port class) rows some.0 = found_is (is_row_of port class) rows some.0 some.1 in
          let at = row_at some.0 port class f.passes in
          record {
            row = some.0;
            found = some.1;
            holds = All-found (RowHolds network) (is_row_of port class) rows some.0 h.each some.1;
            port_is = at.0;
            class_is = at.1;
          })
    ]

-- the place of a row
place_is : (network : DeclaredNetwork) (row : Row) (port class : ℕ) → IsNetwork network → row.port ≡ port
    → row.class ≡ class → is_used network port class ≡ true → IsPlace network row.port row.class
place_is network row port class is p c used =
    is_place network row.port row.class is
    (ap (λ (n : ℕ). is_used network n row.class) p ∙ ap (λ (n : ℕ). is_used network port n) c ∙ used)

-- where a certificate holds, each place fits its link
pub fits_held : (network : DeclaredNetwork) (rows : List Row) (port class : ℕ) → Holds network rows
    → is_used network port class ≡ true → Fits network port class
fits_held network rows port class h used =
    let r : IsHeld network rows port class = held network rows port class h used in
    subst (λ (n : ℕ). Fits network n class) r.port_is
    (subst (λ (n : ℕ). Fits network r.row.port n) r.class_is (load-is network r.row r.holds.covers))

least_at : (network : DeclaredNetwork) (row : Row) (port class : ℕ) → row.port ≡ port → row.class ≡ class
    → least_row network (row.port, row.class) ≡ least_row network (port, class)
least_at network row port class p c = ap (λ (n : ℕ). least_row network (n, row.class)) p
    ∙ ap (λ (n : ℕ). least_row network (port, n)) c

-- the least row of a place may stay behind its port
stays_held : (network : DeclaredNetwork) (rows : List Row) (port class : ℕ) → IsNetwork network → Holds network rows
    → is_used network port class ≡ true → MayStay network port (least_row network (port, class)).wait
stays_held network rows port class is h used ns residence =
    let r : IsHeld network rows port class = held network rows port class h used in
    let le =
    least_wait-le network r.row (place_is network r.row port class is r.port_is r.class_is used) r.holds.covers in
    let same = ap (λ (row : Row). row.wait) (least_at network r.row port class r.port_is r.class_is) in
    let stay = subst (λ (n : ℕ). MayStay network n r.row.wait) r.port_is r.holds.residence in
    let grows = need_grows network port (least_row network (port, class)).wait r.row.wait (omega (arith, le, same)) in
    omega (arith, grows, stay ns residence)

-- a row of the least certificate is that of a place that is used
pub record IsLeastOf (network : DeclaredNetwork) (row : Row) : Type 0 where
  pub used : is_used network row.port row.class ≡ true
  pub is : row ≡ least_row network (row.port, row.class)

pub each_least : (network : DeclaredNetwork) → All (IsLeastOf network) (least_certificate network)
each_least network = All-map (IsLeastOf network) (least_row network) (places_of network)
    (λ k d h. record { used = places_used network k d h; is = refl })

-- the least bound of a port and a class is at most that of a certificate that holds
bound_at-le : (network : DeclaredNetwork) (rows : List Row) (port class : ℕ) → IsNetwork network → Holds network rows
    → bound_at (least_certificate network) port class ≤ bound_at rows port class
bound_at-le network rows port class is h = elim (option_cases (row_of (least_certificate network) port class)) as (λ _.
    bound_at (least_certificate network) port class ≤ bound_at rows port class) [
      | inl none ↦ (
          let zero = ap (λ (o : Option Row). unwrap_or (option_map (λ (row : Row). row.bound) o) 0) none in
          omega (arith, zero))
      | inr some ↦ (
          let l : Row = some.0 in
          let f : IsFound (is_row_of port class) (least_certificate network) l =
          found_is (is_row_of port class) (least_certificate network) l some.1 in
          let at = row_at l port class f.passes in
          let of : IsLeastOf network l =
          All-found (IsLeastOf network) (is_row_of port class) (least_certificate network) l
          (each_least network) some.1 in
          let used : is_used network port class ≡ true = ap (λ (n : ℕ). is_used network port n) (sym at.1)
          ∙ ap (λ (n : ℕ). is_used network n l.class) (sym at.0) ∙ of.used in
          let r : IsHeld network rows port class = held network rows port class h used in
          let le = least_bound-le network r.row (place_is network r.row port class is r.port_is r.class_is used)
          r.holds.covers in
          let mine : l.bound ≡ (least_row network (port, class)).bound =
          ap (λ (row : Row). row.bound) (of.is ∙ least_at network l port class at.0 at.1) in
          let theirs : (least_row network (r.row.port, r.row.class)).bound ≡ (least_row network (port, class)).bound =
          ap (λ (row : Row). row.bound) (least_at network r.row port class r.port_is r.class_is) in
          let first : bound_at (least_certificate network) port class ≡ l.bound =
          ap (λ (o : Option Row). unwrap_or (option_map (λ (row : Row). row.bound) o) 0) some.1 in
          let second : bound_at rows port class ≡ r.row.bound =
          ap (λ (o : Option Row). unwrap_or (option_map (λ (row : Row). row.bound) o) 0) r.found in
          omega (arith, le, mine, theirs, first, second))
    ]

in_time_held : (network : DeclaredNetwork) (rows : List Row) (stream : DeclaredStream) → IsNetwork network
    → Holds network rows → IsInTime rows stream → IsInTime (least_certificate network) stream
in_time_held network rows stream is h time k d within =
    let sender : Sender = stream_sender stream in
    let le = sum_by-le-sum_by (bound_of_hop (least_certificate network) sender) (bound_of_hop rows sender)
    (get_or (routes_of stream.ports stream.branches) k d)
    (λ port. bound_at-le network rows port (class_at sender port) is h) in
    omega (arith, le, time k d within)

-- no overload, no overstay and no late stream leave no reason
pub reason_of-none : (network : DeclaredNetwork) → first_some (overload network) (places_of network) ≡ None
    → first_some (overstay network) (least_certificate network) ≡ None
    → first_some (late network.topology (least_certificate network)) network.streams ≡ None → reason_of network ≡ None
reason_of-none network loads stays times =
    ap (λ (o : Option Reason). option_or o (option_or (first_some (overstay network) (least_certificate network))
    (first_some (late network.topology (least_certificate network)) network.streams))) loads
    ∙ ap (λ (o : Option Reason). option_or o
    (first_some (late network.topology (least_certificate network)) network.streams)) stays
    ∙ times

-- a certificate that holds leaves no reason
pub no_reason_held : (network : DeclaredNetwork) (rows : List Row) → IsNetwork network → Holds network rows
    → reason_of network ≡ None
no_reason_held network rows is h =
    let loads : first_some (overload network) (places_of network) ≡ None =
    first_some-none (overload network) (places_of network)
    (λ k d within. overload-none network (get_or (places_of network) k d).0 (get_or (places_of network) k d).1
    (fits_held network rows (get_or (places_of network) k d).0 (get_or (places_of network) k d).1 h
    (places_used network k d within))) in
    let stays : first_some (overstay network) (least_certificate network) ≡ None =
    first_some-none (overstay network) (least_certificate network)
    (All-map (λ (row : Row). overstay network row ≡ None) (least_row network) (places_of network)
    (λ k d within. (
    let at = get_or (places_of network) k d in
    by_stay (least_row network at) (row_need network (least_row network at)) (residence_after network.topology at.0)
    (stays_held network rows at.0 at.1 is h (places_used network k d within))))) in
    let times : first_some (late network.topology (least_certificate network)) network.streams ≡ None =
    first_some-none (late network.topology (least_certificate network)) network.streams
    (λ k d within. by_time network.topology (least_certificate network) (get_or network.streams k d)
    (in_time_held network rows (get_or network.streams k d) is h (h.deadlines k d within))) in
    reason_of-none network loads stays times

pub reason_leaves_none : ReasonLeavesNone
reason_leaves_none network reason rows is some h = none-some reason (sym (no_reason_held network rows is h) ∙ some)
