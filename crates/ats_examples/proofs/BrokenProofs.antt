use Rattle.std.proofs.Common.{◌≡◌, ℕ, zero, suc, ◌≤◌, get_or, length, refl, ap, arith, lit<, lit≤}
use Rattle.ats_port_rule.specs.PortRule.{IsAhead, StartsAfterGap}
use Rattle.ats_trace.specs.Projections.{sent_by}
use Rattle.ats_trace.specs.Stored.{no_travel}
use Rattle.ats_trace.specs.Parts.{octets, way, links, chosen, prompt, flows, Keeps}
use Rattle.ats_trace.specs.declared.journey.Ending.{Ending}
use Rattle.ats_trace.specs.declared.journey.Ending.TheVariants.{Sink, Discard}
use Rattle.ats_examples.specs.Networks.{line, line_and_flow}
use Rattle.ats_examples.specs.BrokenRuns.{later_eligible_first, idle_over_flow, long_link, short_link}
use Rattle.ats_examples.specs.BrokenRuns.{discarded_and_sunk, discarded_twice, never_sent, lost, long_of_flow}
use Rattle.ats_examples.specs.BrokenRuns.{of_2001_octets, EachBreaksAlone}
use Rattle.ats_examples.proofs.ChangeProofs.{no_transmission, no_crossing, no_frame, time_in}
use Rattle.ats_examples.proofs.PartTest.{others_by}

not_chosen : ¬ Keeps chosen line later_eligible_first
not_chosen keeps =
    let ahead : IsAhead (get_or (sent_by line later_eligible_first 0) 2 no_transmission)
    (get_or (sent_by line later_eligible_first 0) 1 no_transmission)
    = keeps 0 (lit< tt) 2 no_transmission (lit< tt) 1 no_transmission (lit< tt) (lit< tt) (lit≤ tt) in
    let earlier : 2 ≤ 1 = ahead.no_later refl in
    absurd (omega arith)

-- no transmission of the station ends when that of the stream starts
gap_there : StartsAfterGap (sent_by line_and_flow idle_over_flow 0)
    (get_or (sent_by line_and_flow idle_over_flow 0) 1 no_transmission)
gap_there zero d within same = let e : ◌≡◌ {A = ℕ} 1344005 5 = same in absurd (omega arith)
gap_there (suc zero) d within same = let e : ◌≡◌ {A = ℕ} 672005 5 = same in absurd (omega arith)
gap_there (suc (suc k)) d within same = absurd (omega arith)

not_prompt : ¬ Keeps prompt line_and_flow idle_over_flow
not_prompt keeps =
    let idle : 5 ≤ 0 = keeps 0 (lit< tt) 1 no_transmission (lit< tt) 0 no_transmission (lit< tt) gap_there (lit≤ tt) in
    absurd (omega arith)

not_so_far : ¬ Keeps links line long_link
not_so_far keeps =
    let far : 13836001 ≤ 13836000 = ((keeps 0 (lit< tt)).within 0 no_crossing (lit< tt)).latest in
    absurd (omega arith)

not_so_near : ¬ Keeps links line short_link
not_so_near keeps =
    let near : 13836000 ≤ 13835999 = ((keeps 0 (lit< tt)).within 0 no_crossing (lit< tt)).earliest in
    absurd (omega arith)

-- which of the endings it is
abbrev ending_number : Ending → ℕ
ending_number (Sink at) = 1
ending_number Discard = 0

not_sunk : ¬ Keeps way line discarded_and_sunk
not_sunk keeps =
    let other : ◌≡◌ {A = ℕ} 1 0 = ap ending_number (keeps 0 no_travel (lit< tt)).1.1 in
    absurd (omega arith)

not_twice : ¬ Keeps way line discarded_twice
not_twice keeps =
    let more : ◌≡◌ {A = ℕ} 1 0 = ap length (keeps 0 no_travel (lit< tt)).1.0 in
    absurd (omega arith)

not_unsent : ¬ Keeps way line never_sent
not_unsent keeps = (keeps 0 no_travel (lit< tt)).1

not_lost : ¬ Keeps way line lost
not_lost keeps = (keeps 0 no_travel (lit< tt)).1

not_of_flow : ¬ Keeps flows line_and_flow long_of_flow
not_of_flow keeps =
    let told : ◌≡◌ {A = ℕ} 13844000 0 = ap time_in (keeps 0 (lit< tt) 0 no_frame (lit< tt)) in
    absurd (omega arith)

not_octets : ¬ Keeps octets line of_2001_octets
not_octets keeps =
    let long : 2001 ≤ 2000 = (keeps 0 no_travel (lit< tt)).most in
    absurd (omega arith)

pub each_breaks_alone : EachBreaksAlone
each_breaks_alone =
    record {
      later_eligible_first = record { broken = not_chosen; others = others_by chosen line later_eligible_first refl };
      idle_over_flow = record { broken = not_prompt; others = others_by prompt line_and_flow idle_over_flow refl };
      long_link = record { broken = not_so_far; others = others_by links line long_link refl };
      short_link = record { broken = not_so_near; others = others_by links line short_link refl };
      discarded_and_sunk = record { broken = not_sunk; others = others_by way line discarded_and_sunk refl };
      discarded_twice = record { broken = not_twice; others = others_by way line discarded_twice refl };
      never_sent = record { broken = not_unsent; others = others_by way line never_sent refl };
      lost = record { broken = not_lost; others = others_by way line lost refl };
      long_of_flow = record { broken = not_of_flow; others = others_by flows line_and_flow long_of_flow refl };
      of_2001_octets = record { broken = not_octets; others = others_by octets line of_2001_octets refl };
    }
