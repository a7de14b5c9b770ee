use Rattle.std.proofs.Common.{◌≡◌, ℕ, zero, suc, ◌≤◌, true, List, get_or, refl, ap, arith, inl, inr, ◌⊎◌, lit<, lit≤}
use Rattle.ats_network.specs.Network.{DeclaredNetwork}
use Rattle.ats_num.specs.declared.time.Ps.{Ps}
use Rattle.ats_port_rule.specs.PortRule.{StartsAfterGap}
use Rattle.ats_trace.specs.Journey.{Travel}
use Rattle.ats_trace.specs.Parts.{Part, Keeps, in_order, octets, way, released, copies, links, waits, takes, apart}
use Rattle.ats_trace.specs.Parts.{prompt}
use Rattle.ats_trace.specs.Projections.{sent_by}
use Rattle.ats_trace.specs.Stored.{no_travel}
use Rattle.ats_examples.specs.Deviations.{BreaksAlone}
use Rattle.ats_examples.specs.Networks.{line_and_flow}
use Rattle.ats_examples.proofs.ChangeProofs.{no_crossing, no_transmission, time_in}
use Rattle.ats_examples.proofs.PartTest.{others_by, others_pass}
use Rattle.ats_order_examples.specs.Flows.{arriving, ranged_flow}
use Rattle.ats_order_examples.specs.FlowBreaks.{FlowsBreakAlone, back_in_time, comes_later, early_at_bridge}
use Rattle.ats_order_examples.specs.FlowBreaks.{early_at_station, eligible_later, heard_at, idle_at_bridge}
use Rattle.ats_order_examples.specs.FlowBreaks.{idle_at_station, lost, of_63_octets, overlapping, sent_until, with_copy}

-- What a flow's frames alone break, by computation.

-- the only transmission of a port does not end when it starts
gap_at_station : StartsAfterGap (sent_by line_and_flow idle_at_station 0)
    (get_or (sent_by line_and_flow idle_at_station 0) 0 no_transmission)
gap_at_station zero d within same = let e : ◌≡◌ {A = ℕ} 672001 1 = same in absurd (omega arith)
gap_at_station (suc k) d within same = absurd (omega arith)

gap_at_bridge : StartsAfterGap (sent_by line_and_flow idle_at_bridge 2)
    (get_or (sent_by line_and_flow idle_at_bridge 2) 0 no_transmission)
gap_at_bridge zero d within same = let e : ◌≡◌ {A = ℕ} 2844001 2172001 = same in absurd (omega arith)
gap_at_bridge (suc k) d within same = absurd (omega arith)

not_at_station : ¬ Keeps prompt line_and_flow idle_at_station
not_at_station keeps =
    let idle : 1 ≤ 0 =
    keeps 0 (lit< tt) 0 no_transmission (lit< tt) 0 no_transmission (lit< tt) gap_at_station (lit≤ tt) in
    absurd (omega arith)

not_at_bridge : ¬ Keeps prompt line_and_flow idle_at_bridge
not_at_bridge keeps =
    let idle : 2172001 ≤ 2172000 =
    keeps 2 (lit< tt) 0 no_transmission (lit< tt) 0 no_transmission (lit< tt) gap_at_bridge (lit≤ tt) in
    absurd (omega arith)

not_eligible : ¬ Keeps released line_and_flow eligible_later
not_eligible keeps =
    let held : ◌≡◌ {A = ℕ} 1 0 = ap time_in (keeps 0 no_travel (lit< tt)).1 in
    absurd (omega arith)

not_there : ¬ Keeps released line_and_flow comes_later
not_there keeps =
    let late : ◌≡◌ {A = ℕ} 1 0 = ap (λ (t : Ps). t.0) (keeps 0 no_travel (lit< tt)).0 in
    absurd (omega arith)

not_quickly : ¬ Keeps takes line_and_flow (sent_until 671999)
not_quickly keeps =
    let quick : ◌≡◌ {A = ℕ} 671999 672000 = keeps 0 (lit< tt) 0 no_transmission (lit< tt) in
    absurd (omega arith)

not_slowly : ¬ Keeps takes line_and_flow (sent_until 672001)
not_slowly keeps =
    let slow : ◌≡◌ {A = ℕ} 672001 672000 = keeps 0 (lit< tt) 0 no_transmission (lit< tt) in
    absurd (omega arith)

not_started : ¬ Keeps waits line_and_flow early_at_station
not_started keeps =
    let early : 1 ≤ 0 = keeps 0 (lit< tt) 0 no_transmission (lit< tt) in
    absurd (omega arith)

not_cut_through : ¬ Keeps waits line_and_flow early_at_bridge
not_cut_through keeps =
    let early : 2172000 ≤ 2171999 = keeps 2 (lit< tt) 0 no_transmission (lit< tt) in
    absurd (omega arith)

not_apart : ¬ Keeps apart line_and_flow overlapping
not_apart keeps =
    let overlap : (672000 ≤ 1) ⊎ (672001 ≤ 0) = keeps 0 (lit< tt) 0 1 no_transmission (lit< tt) (lit< tt) in
    elim overlap [ inl e ↦ absurd (omega arith) | inr e ↦ absurd (omega arith) ]

not_so_soon : ¬ Keeps links ranged_flow (arriving 1371999 2043999 2543999)
not_so_soon keeps =
    let soon : 1372000 ≤ 1371999 = ((keeps 0 (lit< tt)).within 0 no_crossing (lit< tt)).earliest in
    absurd (omega arith)

not_heard_early : ¬ Keeps links line_and_flow (heard_at 3343999)
not_heard_early keeps =
    let early : 3344000 ≤ 3343999 = ((keeps 2 (lit< tt)).within 0 no_crossing (lit< tt)).earliest in
    absurd (omega arith)

not_heard_late : ¬ Keeps links line_and_flow (heard_at 3344001)
not_heard_late keeps =
    let late : 3344001 ≤ 3344000 = ((keeps 2 (lit< tt)).within 0 no_crossing (lit< tt)).latest in
    absurd (omega arith)

not_in_order : ¬ Keeps in_order line_and_flow back_in_time
not_in_order keeps = let back : 1 ≤ 0 = keeps 0 1 0 (lit≤ tt) (lit< tt) in absurd (omega arith)

not_octets : ¬ Keeps octets line_and_flow of_63_octets
not_octets keeps = let short : 64 ≤ 63 = (keeps 0 no_travel (lit< tt)).least in absurd (omega arith)

not_lost : ¬ Keeps way line_and_flow lost
not_lost keeps = (keeps 0 no_travel (lit< tt)).1

not_copied : ¬ Keeps copies line_and_flow with_copy
not_copied keeps = keeps 0 no_travel (lit< tt)

-- a run that breaks a part, and passes the tests of all others
alone : (part : Part) (network : DeclaredNetwork) (run : List Travel) → ¬ Keeps part network run
    → others_pass part network run ≡ true → BreaksAlone part network run
alone part network run broken others = record { broken = broken; others = others_by part network run others }

pub flows_break_alone : FlowsBreakAlone
flows_break_alone = record {
  idle_at_station = alone prompt line_and_flow idle_at_station not_at_station refl;
  idle_at_bridge = alone prompt line_and_flow idle_at_bridge not_at_bridge refl;
  eligible_later = alone released line_and_flow eligible_later not_eligible refl;
  comes_later = alone released line_and_flow comes_later not_there refl;
  sent_quickly = alone takes line_and_flow (sent_until 671999) not_quickly refl;
  sent_slowly = alone takes line_and_flow (sent_until 672001) not_slowly refl;
  early_at_station = alone waits line_and_flow early_at_station not_started refl;
  early_at_bridge = alone waits line_and_flow early_at_bridge not_cut_through refl;
  overlapping = alone apart line_and_flow overlapping not_apart refl;
  comes_early = alone links ranged_flow (arriving 1371999 2043999 2543999) not_so_soon refl;
  heard_early = alone links line_and_flow (heard_at 3343999) not_heard_early refl;
  heard_late = alone links line_and_flow (heard_at 3344001) not_heard_late refl;
  back_in_time = alone in_order line_and_flow back_in_time not_in_order refl;
  of_63_octets = alone octets line_and_flow of_63_octets not_octets refl;
  lost = alone way line_and_flow lost not_lost refl;
  with_copy = alone copies line_and_flow with_copy not_copied refl;
}
