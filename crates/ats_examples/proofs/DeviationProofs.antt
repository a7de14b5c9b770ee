use Rattle.std.proofs.Common.{◌≡◌, ℕ, zero, suc, ◌≤◌, get_or, refl, ap, arith, inl, inr, ◌⊎◌, lit<, lit≤}
use Rattle.ats_port_rule.specs.PortRule.{IsAhead, StartsAfterGap}
use Rattle.ats_trace.specs.Projections.{sent_by}
use Rattle.ats_trace.specs.Stored.{no_travel}
use Rattle.ats_trace.specs.Parts.{Part, in_order, octets, way, released, copies, links, waits, takes, apart, chosen}
use Rattle.ats_trace.specs.Parts.{prompt, groups, flows, Keeps}
use Rattle.ats_examples.specs.Networks.{line_and_flow}
use Rattle.ats_examples.specs.Deviations.{deviation, EachPartCounts}
use Rattle.ats_examples.proofs.ChangeProofs.{no_transmission, no_crossing, no_frame, time_in, not_early}
use Rattle.ats_examples.proofs.PartTest.{others_by}

-- at port 2 no transmission ends when the late one starts
gap_there : StartsAfterGap (sent_by line_and_flow (deviation prompt) 2)
    (get_or (sent_by line_and_flow (deviation prompt) 2) 0 no_transmission)
gap_there zero d within same = let e : ◌≡◌ {A = ℕ} 26172001 13836001 = same in absurd (omega arith)
gap_there (suc k) d within same = absurd (omega arith)

not_judged : ¬ Keeps groups line_and_flow (deviation groups)
not_judged keeps = not_early (keeps 0 6 (lit< tt) (lit≤ tt))

-- what each deviation breaks
not_kept : (part : Part) → ¬ Keeps part line_and_flow (deviation part)
not_kept in_order keeps = let back : 1 ≤ 0 = keeps 0 1 0 (lit≤ tt) (lit< tt) in absurd (omega arith)
not_kept octets keeps = let short : 64 ≤ 63 = (keeps 0 no_travel (lit< tt)).least in absurd (omega arith)
not_kept way keeps = (keeps 0 no_travel (lit< tt)).1
not_kept links keeps =
    let late : 26672001 ≤ 26672000 = ((keeps 2 (lit< tt)).within 0 no_crossing (lit< tt)).latest in
    absurd (omega arith)
not_kept released keeps = let held : ◌≡◌ {A = ℕ} 2 1 = ap time_in (keeps 1 no_travel (lit< tt)).1 in
    absurd (omega arith)
not_kept copies keeps = keeps 0 no_travel (lit< tt)
not_kept waits keeps = let early : 13836000 ≤ 13835999 = keeps 2 (lit< tt) 0 no_transmission (lit< tt) in
    absurd (omega arith)
not_kept takes keeps = let slow : ◌≡◌ {A = ℕ} 12336000 12328000 = keeps 0 (lit< tt) 0 no_transmission (lit< tt) in
    absurd (omega arith)
not_kept apart keeps =
    let overlap : (12336000 ≤ 1) ⊎ (12336001 ≤ 0) = keeps 0 (lit< tt) 0 1 no_transmission (lit< tt) (lit< tt) in
    elim overlap [ inl e ↦ absurd (omega arith) | inr e ↦ absurd (omega arith) ]
not_kept chosen keeps =
    let ahead : IsAhead (get_or (sent_by line_and_flow (deviation chosen) 0) 0 no_transmission)
    (get_or (sent_by line_and_flow (deviation chosen) 0) 1 no_transmission)
    = keeps 0 (lit< tt) 0 no_transmission (lit< tt) 1 no_transmission (lit< tt) (lit< tt) (lit≤ tt) in
    let class : 6 ≤ 0 = ahead.class in
    absurd (omega arith)
not_kept prompt keeps =
    let idle : 13836001 ≤ 13836000 =
    keeps 2 (lit< tt) 0 no_transmission (lit< tt) 0 no_transmission (lit< tt) gap_there (lit≤ tt) in
    absurd (omega arith)
not_kept groups keeps = not_judged keeps
not_kept flows keeps =
    let held : ◌≡◌ {A = ℕ} 13836001 13836000 = ap time_in (keeps 0 (lit< tt) 0 no_frame (lit< tt)) in
    absurd (omega arith)

pub each_part_counts : EachPartCounts
each_part_counts in_order =
    record { broken = not_kept in_order; others = others_by in_order line_and_flow (deviation in_order) refl }
each_part_counts octets =
    record { broken = not_kept octets; others = others_by octets line_and_flow (deviation octets) refl }
each_part_counts way = record { broken = not_kept way; others = others_by way line_and_flow (deviation way) refl }
each_part_counts released =
    record { broken = not_kept released; others = others_by released line_and_flow (deviation released) refl }
each_part_counts copies =
    record { broken = not_kept copies; others = others_by copies line_and_flow (deviation copies) refl }
each_part_counts links =
    record { broken = not_kept links; others = others_by links line_and_flow (deviation links) refl }
each_part_counts waits =
    record { broken = not_kept waits; others = others_by waits line_and_flow (deviation waits) refl }
each_part_counts takes =
    record { broken = not_kept takes; others = others_by takes line_and_flow (deviation takes) refl }
each_part_counts apart =
    record { broken = not_kept apart; others = others_by apart line_and_flow (deviation apart) refl }
each_part_counts chosen =
    record { broken = not_kept chosen; others = others_by chosen line_and_flow (deviation chosen) refl }
each_part_counts prompt =
    record { broken = not_kept prompt; others = others_by prompt line_and_flow (deviation prompt) refl }
each_part_counts groups =
    record { broken = not_kept groups; others = others_by groups line_and_flow (deviation groups) refl }
each_part_counts flows =
    record { broken = not_kept flows; others = others_by flows line_and_flow (deviation flows) refl }
