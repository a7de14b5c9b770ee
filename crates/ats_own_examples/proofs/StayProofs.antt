use Rattle.std.proofs.Common.{◌≡◌, ℕ, ◌*◌, true, false, None, refl, sym, ap, subst, ◌∙◌, arith, lit<}
use Rattle.std.proofs.lemmas.Bool.{false≢true}
use Rattle.ats_topology.specs.Node.{clock_of, is_station, residence_of}
use Rattle.ats_topology.specs.declared.node.Kind.{Kind}
use Rattle.ats_network.specs.Edits.{no_stream}
use Rattle.ats_certificate.specs.Certificate.{need_by}
use Rattle.ats_certificate.specs.declared.row.Row.{Row}
use Rattle.ats_tally.proofs.Places.{IsPlace, is_place}
use Rattle.ats_bound.specs.Least.{least_row}
use Rattle.ats_bound.proofs.Waits.{least_row-only}
use Rattle.ats_explain.specs.Laws.{AreParts, EachStreamAddsUp, IsStayBehind, IsStayOf}
use Rattle.ats_explain.specs.declared.parts.Parts.{Parts}
use Rattle.ats_examples.specs.OwnFrames.{own}
use Rattle.ats_examples.proofs.OwnFrameProofs.{own_certified}
use Rattle.ats_own_examples.specs.Stays.{StaysAreExact, parts_with, stay}

-- Stays of parts, by the one row of a port and class.

row_is : (port class : ℕ) (parts : Parts) → IsPlace own port class → (h : AreParts own port class parts)
    → h.row ≡ least_row own (port, class)
row_is port class parts place h =
    let at : IsPlace own h.row.port h.row.class =
    subst (λ (p : ℕ). IsPlace own p h.row.class) (sym h.port_is)
    (subst (λ (c : ℕ). IsPlace own port c) (sym h.class_is) place) in
    least_row-only own h.row at h.least
    ∙ ap (λ (p : ℕ). least_row own (p, h.row.class)) h.port_is
    ∙ ap (λ (c : ℕ). least_row own (port, c)) h.class_is

stay_of : (port class : ℕ) (parts : Parts) → IsPlace own port class → AreParts own port class parts
    → IsStayOf own port (least_row own (port, class)).wait parts.stay
stay_of port class parts place h =
    subst (λ (row : Row). IsStayOf own port row.wait parts.stay) (row_is port class parts place h) h.stay

-- class 7 at the port to the bridge and at that behind it, and class 6 at the first
at_end : IsPlace own 0 7
at_end = is_place own 0 7 own_certified.rules refl

at_bridge : IsPlace own 2 7
at_bridge = is_place own 2 7 own_certified.rules refl

going_on : IsPlace own 0 6
going_on = is_place own 0 6 own_certified.rules refl

another_need : ¬ AreParts own 0 7 (parts_with 0 7 (stay 12336001 1000000000))
another_need h =
    let told : IsStayBehind own 0 12336000 (record { need = 12336001; residence = 1000000000 }) =
    stay_of 0 7 (parts_with 0 7 (stay 12336001 1000000000)) at_end h in
    let e : ◌≡◌ {A = ℕ} 12336001 12336000 =
    told.need ∙ ap (λ (kind : Kind). need_by (clock_of kind) 12336000) (sym told.bridge) in
    absurd (omega arith)

another_residence : ¬ AreParts own 0 7 (parts_with 0 7 (stay 12336000 1000000))
another_residence h =
    let told : IsStayBehind own 0 12336000 (record { need = 12336000; residence = 1000000 }) =
    stay_of 0 7 (parts_with 0 7 (stay 12336000 1000000)) at_end h in
    let bridge : 1000000 ≡ told.residence_ns = ap residence_of told.bridge in
    let e : 1000000 ≡ 1000 * told.residence_ns = told.residence in
    absurd (omega (arith, bridge, e))

none : ¬ AreParts own 0 7 (parts_with 0 7 None)
none h =
    let station : false ≡ true = ap is_station (stay_of 0 7 (parts_with 0 7 None) at_end h) in
    false≢true station

not_of_other : ¬ AreParts own 0 6 (parts_with 0 6 (stay 12336000 1000000000))
not_of_other h =
    let told : IsStayBehind own 0 12460607 (record { need = 12336000; residence = 1000000000 }) =
    stay_of 0 6 (parts_with 0 6 (stay 12336000 1000000000)) going_on h in
    let e : ◌≡◌ {A = ℕ} 12336000 12460607 =
    told.need ∙ ap (λ (kind : Kind). need_by (clock_of kind) 12460607) (sym told.bridge) in
    absurd (omega arith)

no_bridge : ¬ AreParts own 2 7 (parts_with 2 7 (stay 12336000 0))
no_bridge h =
    let told : IsStayBehind own 2 12336000 (record { need = 12336000; residence = 0 }) =
    stay_of 2 7 (parts_with 2 7 (stay 12336000 0)) at_bridge h in
    let bridge : true ≡ false = ap is_station told.bridge in
    false≢true (sym bridge)

-- the streams of `own` are numbered from 0, and so are their ports
pub stays_are_exact : EachStreamAddsUp → StaysAreExact
stays_are_exact each_stream_adds_up = record {
  ending = (each_stream_adds_up own own_certified.rules refl 2 no_stream (lit< tt)).parts 0 0 (lit< tt);
  another_need = another_need;
  another_residence = another_residence;
  none = none;
  going_on = (each_stream_adds_up own own_certified.rules refl 0 no_stream (lit< tt)).parts 0 0 (lit< tt);
  not_of_other = not_of_other;
  to_station = (each_stream_adds_up own own_certified.rules refl 1 no_stream (lit< tt)).parts 0 0 (lit< tt);
  no_bridge = no_bridge;
}
