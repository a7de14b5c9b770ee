use Rattle.std.proofs.Common.{◌≡◌, ℕ, ◌<◌, ◌≤◌, refl, arith, lit<}
use Rattle.ats_num.specs.Pace.{drawn_wait}
use Rattle.ats_num.specs.Tie.{late_key, mixed_key}
use Rattle.ats_trace.specs.Parts.{links, Keeps}
use Rattle.ats_trace.specs.Run.{IsRunBy}
use Rattle.ats_examples.specs.LegalRuns.{frame_key, least_wait, greatest_wait}
use Rattle.ats_examples.specs.PacedRuns.{arriving, second_arriving, overtaking, arriving_next}
use Rattle.ats_examples.specs.Networks.{ranged_line, over_two_ranged}
use Rattle.ats_examples.specs.PacedRuns.{ArrivalsAreLegal, ArrivalsBreakLinks, ArrivalsByPace}
use Rattle.ats_examples.proofs.ChangeProofs.{no_crossing}
use Rattle.ats_examples.proofs.LegalProofs.{run_by}
use Rattle.ats_examples.proofs.PartTest.{others_by, legal_by}

pub arrivals_legal : ArrivalsAreLegal
arrivals_legal = record {
  earliest = legal_by ranged_line (arriving 13036000) refl;
  inside = legal_by ranged_line (arriving 13036007) refl;
  latest = legal_by ranged_line (arriving 13836000) refl;
  behind = legal_by ranged_line (second_arriving 2172001) refl;
  last = legal_by ranged_line (second_arriving 2844000) refl;
  next_earliest = legal_by over_two_ranged (arriving_next 26072000) refl;
  next_latest = legal_by over_two_ranged (arriving_next 26872000) refl;
}

not_so_early : ¬ Keeps links ranged_line (arriving 13035999)
not_so_early keeps =
    let early : 13036000 ≤ 13035999 = ((keeps 0 (lit< tt)).within 0 no_crossing (lit< tt)).earliest in
    absurd (omega arith)

not_so_late : ¬ Keeps links ranged_line (arriving 13836001)
not_so_late keeps =
    let late : 13836001 ≤ 13836000 = ((keeps 0 (lit< tt)).within 0 no_crossing (lit< tt)).latest in
    absurd (omega arith)

next_not_so_early : ¬ Keeps links over_two_ranged (arriving_next 26071999)
next_not_so_early keeps =
    let early : 26072000 ≤ 26071999 = ((keeps 2 (lit< tt)).within 0 no_crossing (lit< tt)).earliest in
    absurd (omega arith)

next_not_so_late : ¬ Keeps links over_two_ranged (arriving_next 26872001)
next_not_so_late keeps =
    let late : 26872001 ≤ 26872000 = ((keeps 2 (lit< tt)).within 0 no_crossing (lit< tt)).latest in
    absurd (omega arith)

not_together : ¬ Keeps links ranged_line (second_arriving 2172000)
not_together keeps =
    let after : 2172000 < 2172000 =
    (keeps 0 (lit< tt)).order 0 no_crossing (lit< tt) 1 no_crossing (lit< tt) (lit< tt) in
    absurd (omega arith)

not_overtaking : ¬ Keeps links ranged_line overtaking
not_overtaking keeps =
    let after : 2172000 < 2171999 =
    (keeps 0 (lit< tt)).order 0 no_crossing (lit< tt) 1 no_crossing (lit< tt) (lit< tt) in
    absurd (omega arith)

pub arrivals_break_links : ArrivalsBreakLinks
arrivals_break_links = record {
  early = record { broken = not_so_early; others = others_by links ranged_line (arriving 13035999) refl };
  late = record { broken = not_so_late; others = others_by links ranged_line (arriving 13836001) refl };
  next_early = record {
    broken = next_not_so_early;
    others = others_by links over_two_ranged (arriving_next 26071999) refl;
  };
  next_late = record {
    broken = next_not_so_late;
    others = others_by links over_two_ranged (arriving_next 26872001) refl;
  };
  together = record { broken = not_together; others = others_by links ranged_line (second_arriving 2172000) refl };
  overtaking = record { broken = not_overtaking; others = others_by links ranged_line overtaking refl };
}

-- the arrival is not that of the pace
not_least : ¬ IsRunBy frame_key least_wait ranged_line (arriving 13036001)
not_least h =
    let due : ◌≡◌ {A = ℕ} 13036001 13036000 = h.pace 0 (lit< tt) 0 no_crossing (lit< tt) in
    absurd (omega arith)

not_greatest : ¬ IsRunBy late_key greatest_wait ranged_line (arriving 13835999)
not_greatest h =
    let due : ◌≡◌ {A = ℕ} 13835999 13836000 = h.pace 0 (lit< tt) 0 no_crossing (lit< tt) in
    absurd (omega arith)

not_drawn : ¬ IsRunBy (mixed_key 7) (drawn_wait 7) ranged_line (arriving 13036008)
not_drawn h =
    let due : ◌≡◌ {A = ℕ} 13036008 13036007 = h.pace 0 (lit< tt) 0 no_crossing (lit< tt) in
    absurd (omega arith)

not_in_order : ¬ IsRunBy (mixed_key 800000) (drawn_wait 800000) ranged_line (second_arriving 2172002)
not_in_order h =
    let due : ◌≡◌ {A = ℕ} 2172002 2172001 = h.pace 0 (lit< tt) 1 no_crossing (lit< tt) in
    absurd (omega arith)

pub arrivals_by_pace : ArrivalsByPace
arrivals_by_pace = record {
  least = run_by frame_key least_wait ranged_line (arriving 13036000) refl refl refl;
  greatest = run_by late_key greatest_wait ranged_line (arriving 13836000) refl refl refl;
  drawn = run_by (mixed_key 7) (drawn_wait 7) ranged_line (arriving 13036007) refl refl refl;
  in_order = run_by (mixed_key 800000) (drawn_wait 800000) ranged_line (second_arriving 2172001) refl refl refl;
  not_least = not_least;
  not_greatest = not_greatest;
  not_drawn = not_drawn;
  not_in_order = not_in_order;
}
