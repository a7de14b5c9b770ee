use Rattle.std.proofs.Common.{◌≡◌, ℕ, ◌+◌, ◌<◌, ◌≤◌, true, List, refl, arith, lit<}
use Rattle.ats_network.specs.Senders.{sender_at}
use Rattle.ats_trace.specs.Journey.{Travel}
use Rattle.ats_trace.specs.Parts.{links, Keeps}
use Rattle.ats_trace.specs.Run.{IsIdeal, releases_of}
use Rattle.ats_trace.specs.Stored.{travel_at}
use Rattle.ats_trace.specs.Talker.{talker_of, KeepsBuckets}
use Rattle.ats_soundness_law.specs.Rules.{frames_may_stay}
use Rattle.ats_soundness_law.specs.Sound.{IsServed, IsSound}
use Rattle.ats_examples.specs.Networks.{ranged, ranged_line, over_two_ranged}
use Rattle.ats_examples.specs.Rows.{line_rows, two_rows}
use Rattle.ats_examples.specs.PacedRuns.{arriving, arriving_next}
use Rattle.ats_examples.specs.SoundRuns.{IsCertified}
use Rattle.ats_examples.specs.SpreadBounds.{last_stays, last_is_late, overtaken, PacesAreSound, IsUnserved}
use Rattle.ats_examples.specs.SpreadBounds.{LinkRuleCounts}
use Rattle.ats_examples.proofs.BucketTest.{keeps_by}
use Rattle.ats_examples.proofs.ChangeProofs.{no_crossing}
use Rattle.ats_examples.proofs.NetworkProofs.{ranged_is, two_ranged_is}
use Rattle.ats_examples.proofs.PaceProofs.{arrivals_legal, arrivals_break_links}
use Rattle.ats_examples.proofs.PartTest.{others_pass, others_by, legal_by}
use Rattle.ats_examples.proofs.RuleProofs.{unsound_by, breaks}
use Rattle.ats_examples.proofs.RuleTest as rules
use Rattle.ats_examples.proofs.SoundRunProofs.{served_in}

certified : IsCertified ranged_line line_rows
certified = record { rules = ranged_is 12464 refl refl; holds = rules.holds_by ranged_line line_rows refl refl }

latest_kept : KeepsBuckets ranged_line (releases_of (arriving 13836000)) (talker_of ranged_line 0)
latest_kept = keeps_by ranged_line (releases_of (arriving 13836000)) (talker_of ranged_line 0) refl refl

stays_legal : IsIdeal ranged_line last_stays
stays_legal = legal_by ranged_line last_stays refl

stays_kept : KeepsBuckets ranged_line (releases_of last_stays) (talker_of ranged_line 0)
stays_kept = keeps_by ranged_line (releases_of last_stays) (talker_of ranged_line 0) refl refl

over_two : IsCertified over_two_ranged two_rows
over_two = record { rules = two_ranged_is; holds = rules.holds_by over_two_ranged two_rows refl refl }

next_kept : KeepsBuckets over_two_ranged (releases_of (arriving_next 26872000)) (talker_of over_two_ranged 0)
next_kept = keeps_by over_two_ranged (releases_of (arriving_next 26872000)) (talker_of over_two_ranged 0) refl refl

next_late : ¬ IsServed two_rows (sender_at over_two_ranged 0) (travel_at (arriving_next 26872001) 0)
next_late served =
    let late : 26872001 ≤ 13036000 + 13836000 = (served 0 (lit< tt)).prompt.1.1.0 in
    absurd (omega arith)

-- where the residence is 1 ns shorter, the last frame is discarded
short_unsound : ¬ IsSound (ranged 12463) line_rows
short_unsound = unsound_by (ranged 12463) line_rows (last_is_late 14812000) 2 (ranged_is 12463 refl refl) refl
    (legal_by (ranged 12463) (last_is_late 14812000) refl) (2, lit< tt, refl) (lit< tt)
    (keeps_by (ranged 12463) (releases_of (last_is_late 14812000)) (talker_of (ranged 12463) 0) refl refl)
    (λ served. (served 0 (lit< tt)).prompt.1)

pub paces_are_sound : PacesAreSound
paces_are_sound = record {
  certified = certified;
  latest = record {
    legal = arrivals_legal.latest;
    keeps = latest_kept;
    served = served_in ranged_line line_rows (arriving 13836000) (travel_at (arriving 13836000) 0) certified refl
        arrivals_legal.latest (0, lit< tt, refl) (lit< tt) latest_kept;
    whole = refl;
  };
  over_two = over_two;
  next = served_in over_two_ranged two_rows (arriving_next 26872000) (travel_at (arriving_next 26872000) 0) over_two
      refl arrivals_legal.next_latest (0, lit< tt, refl) (lit< tt) next_kept;
  next_late = next_late;
  legal = stays_legal;
  keeps = stays_kept;
  served = served_in ranged_line line_rows last_stays (travel_at last_stays 2) certified refl stays_legal
      (2, lit< tt, refl) (lit< tt) stays_kept;
  spread_counts = breaks frames_may_stay (ranged 12463) line_rows (ranged_is 12463 refl refl)
      (rules.others_by frames_may_stay (ranged 12463) line_rows refl) (rules.rest_by (ranged 12463) line_rows refl)
      short_unsound;
}

-- a run that breaks the link rule alone
unserved : (run : List Travel) (frame : ℕ) → ¬ Keeps links ranged_line run
    → others_pass links ranged_line run ≡ true
    → KeepsBuckets ranged_line (releases_of run) (talker_of ranged_line 0)
    → ¬ IsServed line_rows (sender_at ranged_line 0) (travel_at run frame)
    → IsUnserved ranged_line line_rows run frame
unserved run frame broken others keeps not_served = record {
  alone = record { broken = broken; others = others_by links ranged_line run others };
  keeps = keeps;
  not_served = not_served;
}

latest_unserved : ¬ IsServed line_rows (sender_at ranged_line 0) (travel_at (arriving 13836001) 0)
latest_unserved served =
    let late : 13836001 ≤ 0 + 13836000 = (served 0 (lit< tt)).prompt.1.0 in
    absurd (omega arith)

not_so_early : ¬ Keeps links ranged_line (last_is_late 14811999)
not_so_early keeps =
    let early : 14812000 ≤ 14811999 = ((keeps 0 (lit< tt)).within 2 no_crossing (lit< tt)).earliest in
    absurd (omega arith)

not_in_order : ¬ Keeps links ranged_line overtaken
not_in_order keeps =
    let after : 13836000 < 13708000 =
    (keeps 0 (lit< tt)).order 1 no_crossing (lit< tt) 2 no_crossing (lit< tt) (lit< tt) in
    absurd (omega arith)

overtaken_unserved : ¬ IsServed line_rows (sender_at ranged_line 0) (travel_at overtaken 1)
overtaken_unserved served =
    let late : 19884000 ≤ 0 + 13836000 = (served 0 (lit< tt)).prompt.1.0 in
    absurd (omega arith)

pub link_rule_counts : LinkRuleCounts
link_rule_counts = record {
  latest = unserved (arriving 13836001) 0 arrivals_break_links.late.broken refl
      (keeps_by ranged_line (releases_of (arriving 13836001)) (talker_of ranged_line 0) refl refl) latest_unserved;
  earliest = unserved (last_is_late 14811999) 2 not_so_early refl
      (keeps_by ranged_line (releases_of (last_is_late 14811999)) (talker_of ranged_line 0) refl refl)
      (λ served. (served 0 (lit< tt)).prompt.1);
  order = unserved overtaken 1 not_in_order refl
      (keeps_by ranged_line (releases_of overtaken) (talker_of ranged_line 0) refl refl) overtaken_unserved;
}
