use Rattle.std.proofs.Common.{◌≡◌, ℕ, ◌*◌, ◌<◌, ◌≤◌, Bool, true, false, cond, List, [], ◌∷◌, ◌++◌, length, get_or}
use Rattle.std.proofs.Common.{sum_by, take}
use Rattle.std.proofs.Common.{map, filter, Option, Some, None, refl, sym, ap, ◌∙◌, subst, inl, inr, arith}
use Rattle.std.specs.Prelude.{unwrap_or, ◌==◌}
use Rattle.std.specs.List.{All, concat}
use Rattle.std.specs.Option.{option_map}
use Rattle.std.proofs.Math.Nat.{mul-le-mul_right}
use Rattle.std.proofs.lemmas.Bool.{cases_Bool, cases_lt, and_parts, eqb-true}
use Rattle.std.proofs.lemmas.Option.{same_Some}
use Rattle.std.proofs.lemmas.List.{get_or_default, get_or_past, length-take}
use Rattle.std.proofs.lemmas.List.Elements.{All-from_get_or, All-head, All-tail, All-map, All-filter, All-take}
use Rattle.std.proofs.lemmas.List.Elements.{filter_passes}
use Rattle.std.proofs.lemmas.List.Sums.{get_or-le-sum_by, sum_by-append, sum_by-le, length-filter, count_by-le-length}
use Rattle.ats_num.specs.declared.time.TheConstants.{PS_PER_NS, PS_PER_SECOND}
use Rattle.ats_clock.specs.declared.committed.Committed.{Committed}
use Rattle.ats_topology.specs.Port.{port_at, no_port, spread_of}
use Rattle.ats_topology.proofs.Rules.{ports_are_lawful}
use Rattle.ats_streams.specs.Branches.{AreBranches, leads_of, leg_at, legs_of, routes_of}
use Rattle.ats_streams.specs.Stream.{DeclaredStream, IsStream}
use Rattle.ats_streams.proofs.BranchLemmas.{legs-length, route-at, routes-length}
use Rattle.ats_network.specs.Sender.{Sender, stream_sender}
use Rattle.ats_network.specs.Class.{PortSender, class_at, seen_at, port_before}
use Rattle.ats_network.specs.Edits.{no_stream}
use Rattle.ats_network.specs.Network.{DeclaredNetwork, IsNetwork}
use Rattle.ats_network.specs.Rates.{IsRated, committed_at}
use Rattle.ats_network.proofs.ClassLemmas.{class_along-has}
use Rattle.ats_certificate.specs.PortSums.{uses, is_of, senders_at, is_used}
use Rattle.ats_certificate.specs.Certificate.{is_row_of, row_of, bound_at, bound_of_hop, IsInTime, RowHolds, Holds}
use Rattle.ats_certificate.specs.Form.{IsRow, AreRows}
use Rattle.ats_certificate.specs.declared.row.Row.{Row}
use Rattle.ats_tally.proofs.Lists.{any_gives}
use Rattle.ats_trace.proofs.Legs.{Stands, concat-legs_of, place_is, stands}
use Rattle.ats_buffer.specs.Buffer.{counted_at, of_row, stay_of, stay_at, way_behind, way_by, window_at, has_class}
use Rattle.ats_buffer.specs.Buffer.{share_at, shares_at}
use Rattle.ats_buffer.proofs.Rated.{stream_rated}
use Rattle.ats_buffer.proofs.ShareLemmas.{stream_at}

-- no row is found, or one is: that of the port and class, and what holds of all rows holds of it
pub data IsFound (P : Row → Type 0) (rows : List Row) (port class : ℕ) : Type 0 where
  none : row_of rows port class ≡ None → IsFound P rows port class
  some : (row : Row) → row_of rows port class ≡ Some row → row.port ≡ port → row.class ≡ class → P row
      → IsFound P rows port class

later_found : (P : Row → Type 0) (row : Row) (rows : List Row) (port class : ℕ) → is_row_of port class row ≡ false
    → IsFound P rows port class → IsFound P (row ∷ rows) port class
later_found P row rows port class e (none is) =
    none (ap (λ (b : Bool). cond b (Some row) (row_of rows port class)) e ∙ is)
later_found P row rows port class e (some one is port_is class_is holds) =
    some one (ap (λ (b : Bool). cond b (Some row) (row_of rows port class)) e ∙ is) port_is class_is holds

pub found : (P : Row → Type 0) (rows : List Row) (port class : ℕ) → All P rows → IsFound P rows port class
found P [] port class all = none refl
found P (row ∷ rows) port class all = elim (cases_Bool (is_row_of port class row))
    as (λ _. IsFound P (row ∷ rows) port class) [
      | inl e ↦ (
          let parts = and_parts (row.port == port) (row.class == class) e in
          some row (ap (λ (b : Bool). cond b (Some row) (row_of rows port class)) e)
          (eqb-true row.port port parts.0) (eqb-true row.class class parts.1) (All-head P row rows all))
      | inr e ↦ later_found P row rows port class e (found P rows port class (All-tail P row rows all))
    ]

-- a number of a row, by the row that is found
pub by_found : (amount : Row → ℕ) (rows : List Row) (port class : ℕ) (row : Row) → row_of rows port class ≡ Some row
    → of_row amount rows port class ≡ amount row
by_found amount rows port class row e = ap (λ (o : Option Row). unwrap_or (option_map amount o) 0) e

pub by_none : (amount : Row → ℕ) (rows : List Row) (port class : ℕ) → row_of rows port class ≡ None
    → of_row amount rows port class ≡ 0
by_none amount rows port class e = ap (λ (o : Option Row). unwrap_or (option_map amount o) 0) e

-- a row that is found is in form
by_form : (rows : List Row) (port class : ℕ) (row : Row) → row_of rows port class ≡ Some row
    → IsFound IsRow rows port class → IsRow row
by_form rows port class row e (none is) = cc (e, is)
by_form rows port class row e (some one is port_is class_is form) =
    subst IsRow (same_Some one row (sym is ∙ e)) form

pub row_form : (rows : List Row) (port class : ℕ) (row : Row) → AreRows rows → row_of rows port class ≡ Some row
    → IsRow row
row_form rows port class row form e = by_form rows port class row e (found IsRow rows port class form.each)

-- a row of a certificate that holds
record IsHeld (network : DeclaredNetwork) (row : Row) : Type 0 where
  used : is_used network row.port row.class ≡ true
  holds : RowHolds network row

-- where a stream is in time and uses a port, the bound in its class there, which is one of those along a route, is
-- within its deadline
used_bound : (rows : List Row) (s : DeclaredStream) (port : ℕ) → AreBranches s.ports s.branches → IsInTime rows s
    → uses port (stream_sender s) ≡ true → bound_of_hop rows (stream_sender s) port ≤ PS_PER_NS * s.deadline_ns
used_bound rows s port are time used =
    let f : ℕ → ℕ = bound_of_hop rows (stream_sender s) in
    let legs : List (List ℕ) = legs_of s.ports s.branches in
    let whole : concat legs ≡ s.ports = concat-legs_of s.ports s.branches are in
    any_gives (λ p. p == port) (f port ≤ PS_PER_NS * s.deadline_ns) s.ports
    (λ k d h e. (
    let at : Stands legs k = stands legs k (subst (λ (l : List ℕ). k < length l) (sym whole) h) in
    let own : List ℕ = leg_at legs at.leg in
    let lead : List ℕ = leg_at (leads_of s.ports s.branches) at.leg in
    let there : get_or own at.hop 0 ≡ get_or s.ports k d =
    sym (place_is legs at.leg at.hop at.in_legs at.in_leg) ∙ ap (λ (p : ℕ). get_or (concat legs) p 0) at.there
    ∙ ap (λ (l : List ℕ). get_or l k 0) whole ∙ get_or_default s.ports k 0 d h in
    let leg : at.leg ≤ length s.branches = omega (arith, at.in_legs, legs-length 0 s.ports s.branches) in
    let route : get_or (routes_of s.ports s.branches) at.leg [] ≡ lead ++ own =
    route-at s.ports s.branches at.leg [] leg in
    omega (
      arith,
      ap f (there ∙ eqb-true (get_or s.ports k d) port e),
      get_or-le-sum_by f own at.hop 0 at.in_leg,
      sum_by-append f lead own,
      ap (λ (l : List ℕ). sum_by f l) route,
      time at.leg [] (omega (arith, leg, routes-length s.ports s.branches)),
    ))) used

-- a row of a certificate that holds has a bound of at most the greatest deadline
pub bound-most : (network : DeclaredNetwork) (rows : List Row) → IsNetwork network → Holds network rows
    → (port class : ℕ) → is_used network port class ≡ true → bound_at rows port class ≤ PS_PER_SECOND
bound-most network rows net holds port class used =
    let Within : PortSender → Type 0 = λ (s : PortSender). is_of class s ≡ true
    → bound_at rows port class ≤ PS_PER_SECOND in
    let streams : List Sender = map stream_sender network.streams in
    let BySender : Sender → Type 0 = λ (s : Sender). uses port s ≡ true → Within (seen_at network.topology port s) in
    let each : All BySender streams = All-map BySender stream_sender network.streams
    (λ k d h on of. (
    let s : DeclaredStream = get_or network.streams k d in
    let ranked = ap (bound_at rows port) (eqb-true (class_at (stream_sender s) port) class of) in
    let is : IsStream s = net.streams k d h in
    omega (arith, ranked, used_bound rows s port is.branches (holds.deadlines k d h) on, is.deadline.most))) in
    any_gives (is_of class) (bound_at rows port class ≤ PS_PER_SECOND) (senders_at network.topology port streams)
    (All-map Within (seen_at network.topology port) (filter (uses port) streams)
    (λ k d h. All-filter (uses port) BySender streams each k d h (filter_passes (uses port) streams k d h))) used

-- so a stay and a wait by a certificate that holds
stay-found : (network : DeclaredNetwork) (rows : List Row) → IsNetwork network → Holds network rows
    → (port class : ℕ) → IsFound (IsHeld network) rows port class → stay_at network rows port class ≤ PS_PER_SECOND
stay-found network rows net holds port class (none e) =
    omega (arith, by_none (stay_of (port_at network.topology.ports port)) rows port class e)
stay-found network rows net holds port class (some row e port_is class_is held) =
    let stay = by_found (stay_of (port_at network.topology.ports port)) rows port class row e in
    let bound = by_found (λ (row : Row). row.bound) rows port class row e in
    let there = ap (λ (p : ℕ). (port_at network.topology.ports p).ps_per_bit * row.least) port_is in
    let used = ap (λ (p : ℕ). is_used network p class) (sym port_is)
    ∙ ap (is_used network row.port) (sym class_is) ∙ held.used in
    omega (arith, stay, bound, there, held.holds.covers.bound, bound-most network rows net holds port class used)

wait-found : (network : DeclaredNetwork) (rows : List Row) → IsNetwork network → Holds network rows
    → (port class : ℕ) → IsFound (IsHeld network) rows port class
    → of_row (λ (row : Row). row.wait) rows port class ≤ PS_PER_SECOND
wait-found network rows net holds port class (none e) =
    omega (arith, by_none (λ (row : Row). row.wait) rows port class e)
wait-found network rows net holds port class (some row e port_is class_is held) =
    let wait = by_found (λ (row : Row). row.wait) rows port class row e in
    let bound = by_found (λ (row : Row). row.bound) rows port class row e in
    let used = ap (λ (p : ℕ). is_used network p class) (sym port_is)
    ∙ ap (is_used network row.port) (sym class_is) ∙ held.used in
    omega (arith, wait, bound, held.holds.covers.bound, bound-most network rows net holds port class used)

all_held : (network : DeclaredNetwork) (rows : List Row) → Holds network rows → All (IsHeld network) rows
all_held network rows holds k d h = record { used = holds.rows_of.used k d h; holds = holds.each k d h }

pub stay-most : (network : DeclaredNetwork) (rows : List Row) → IsNetwork network → Holds network rows
    → (port class : ℕ) → stay_at network rows port class ≤ PS_PER_SECOND
stay-most network rows net holds port class =
    stay-found network rows net holds port class (found (IsHeld network) rows port class (all_held network rows holds))

-- a spread is short, also where there is no such port
spread-most : (network : DeclaredNetwork) → IsNetwork network → (port : ℕ)
    → spread_of (port_at network.topology.ports port) ≤ 2000000000
spread-most network net port = elim (cases_lt port (length network.topology.ports))
    as (λ _. spread_of (port_at network.topology.ports port) ≤ 2000000000) [
      | inl within ↦ (
          let lawful = (ports_are_lawful network.topology net.topology).each port no_port within in
          omega (arith, lawful.latency))
      | inr past ↦ (
          let none : spread_of (port_at network.topology.ports port) ≡ 0 =
          ap spread_of (get_or_past network.topology.ports port no_port past) in
          omega (arith, none))
    ]

pub way-most : (network : DeclaredNetwork) (rows : List Row) → IsNetwork network → Holds network rows
    → (port class : ℕ) → way_by network rows port class ≤ 2 * PS_PER_SECOND
way-most network rows net holds port class =
    let wait = wait-found network rows net holds port class
    (found (IsHeld network) rows port class (all_held network rows holds)) in
    omega (arith, wait, spread-most network net port)

-- by how much the ways to a port differ
pub way_behind-most : (network : DeclaredNetwork) (rows : List Row) → IsNetwork network → Holds network rows
    → (s : Sender) (before : Option ℕ) → way_behind network rows s before ≤ 2 * PS_PER_SECOND
way_behind-most network rows net holds s None = omega arith
way_behind-most network rows net holds s (Some q) = way-most network rows net holds q (class_at s q)

-- and what a stream may have
pub share-most : (network : DeclaredNetwork) (rows : List Row) → IsNetwork network → Holds network rows
    → (port class n : ℕ) → n < length network.streams → 1 ≤ class
    → has_class port class (stream_at network n) ≡ true
    → share_at network rows port class (stream_at network n) ≤ 400000000000
share-most network rows net holds port class n h least has =
    let stream : DeclaredStream = stream_at network n in
    let s : Sender = stream_sender stream in
    let seen : Committed = committed_at network.topology (counted_at s port) s in
    let window : ℕ = window_at network rows port class s in
    let short : window ≤ 3 * PS_PER_SECOND =
    (let stay = stay-most network rows net holds port class in
    let way = way_behind-most network rows net holds s (port_before s port) in
    omega (arith, stay, way)) in
    let rated : IsRated network.topology s (counted_at s port) =
    stream_rated network n port net h (class_along-has port stream.ports stream.classes
    (omega (arith, least, eqb-true (class_at s port) class has))) in
    let rates : seen.rate * window ≤ 100000000000 * window = mul-le-mul_right window rated.seen.rate.within in
    omega (arith, short, rates, rated.seen.burst)

pub shares-most : (network : DeclaredNetwork) (rows : List Row) → IsNetwork network → Holds network rows
    → (port class n : ℕ) → 1 ≤ class
    → shares_at network rows port class (take n network.streams) ≤ 4096 * 400000000000
shares-most network rows net holds port class n least =
    let first : List DeclaredStream = take n network.streams in
    let chosen : List DeclaredStream = filter (has_class port class) first in
    let Small : DeclaredStream → Type 0 = λ (s : DeclaredStream). share_at network rows port class s ≤ 400000000000 in
    let Chosen : DeclaredStream → Type 0 = λ (s : DeclaredStream). has_class port class s ≡ true → Small s in
    let all : All Chosen network.streams = All-from_get_or Chosen network.streams no_stream
    (λ k h. share-most network rows net holds port class k h least) in
    let each : All Small chosen =
    λ k d h. All-filter (has_class port class) Chosen first (All-take Chosen n network.streams all) k d h
    (filter_passes (has_class port class) first k d h) in
    let total = sum_by-le (share_at network rows port class) 400000000000 chosen each in
    let fewer : length chosen ≤ 4096 = omega (
      arith,
      length-filter (has_class port class) first,
      count_by-le-length (has_class port class) first,
      length-take n network.streams,
      net.few_streams,
    ) in
    omega (arith, total, mul-le-mul_right 400000000000 fewer)
