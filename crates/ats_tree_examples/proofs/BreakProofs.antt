use Rattle.std.proofs.Common.{◌≡◌, ◌≢◌, ℕ, zero, suc, ◌<◌, ◌≤◌, [], ◌∷◌, length, get_or, map, refl, ap, arith, lit<}
use Rattle.std.proofs.Common.{lit≤, subst, true, List}
use Rattle.ats_num.specs.declared.time.Ps.{Ps}
use Rattle.ats_port_rule.specs.PortRule.{StartsAfterGap}
use Rattle.ats_group.specs.Group.{first, verdicts_of}
use Rattle.ats_group.specs.Judge.{ats_judge}
use Rattle.ats_group.specs.declared.verdict.Verdict.{Verdict}
use Rattle.ats_network.specs.Network.{DeclaredNetwork}
use Rattle.ats_trace.specs.Journey.{Travel, no_leg}
use Rattle.ats_trace.specs.Parts.{Part, copies, links, prompt, groups, Keeps}
use Rattle.ats_trace.specs.Eligibility.{scheduled_by, offer_of, residence_of_groups, IsJudged}
use Rattle.ats_trace.specs.Projections.{Handed, sent_by, handed_by}
use Rattle.ats_trace.specs.Stored.{no_travel}
use Rattle.ats_trace.specs.declared.journey.Ending.TheVariants.{Sink, Discard}
use Rattle.ats_examples.specs.Deviations.{BreaksAlone}
use Rattle.ats_examples.specs.Runs.{hop}
use Rattle.ats_examples.proofs.ChangeProofs.{no_transmission, no_crossing, no_frame, time_in}
use Rattle.ats_examples.proofs.InOrder.{in_order}
use Rattle.ats_examples.proofs.PartTest.{others_pass, others_by}
use Rattle.ats_tree_examples.specs.Networks.{from_bridge, split, split_and_flow, split_by_class, split_ranged}
use Rattle.ats_tree_examples.specs.Networks.{tree_and_flow}
use Rattle.ats_tree_examples.specs.Runs.{copy, dropped, too_long, late_by, one_with, behind_flow_with, held_with}
use Rattle.ats_tree_examples.specs.Runs.{own_with}
use Rattle.ats_tree_examples.specs.Runs.{counted_with, past_its_group, coming, late_in_tree_with}
use Rattle.ats_tree_examples.specs.Copies.{survivor}
use Rattle.ats_tree_examples.specs.Breaks.{CopiesHaveTheFramesTimes, CopiesKeepTheRules, DiscardsAreForAll}
use Rattle.ats_tree_examples.specs.Breaks.{EachHasOneCopy}

-- by the tests of the other parts
alone : (part : Part) (network : DeclaredNetwork) (run : List Travel) → others_pass part network run ≡ true
    → ¬ Keeps part network run → BreaksAlone part network run
alone part network run others broken = record { broken = broken; others = others_by part network run others }

not_missing : ¬ Keeps copies split (one_with [])
not_missing keeps = keeps 0 no_travel (lit< tt)

not_twice : ¬ Keeps copies split
    (one_with (copy (hop 13836000 13836000 13836000 26172000 ∷ []) 26672000
    ∷ copy (hop 13836000 13836000 13836000 26172000 ∷ []) 26672000 ∷ []))
not_twice keeps = (keeps 0 no_travel (lit< tt)).1

not_untold : ¬ Keeps copies split (one_with (no_leg ∷ []))
not_untold keeps = (keeps 0 no_travel (lit< tt)).0.0

not_lost : ¬ Keeps copies split (one_with (dropped (hop 13836000 13836000 13836000 26172000 ∷ []) ∷ []))
not_lost keeps = (keeps 0 no_travel (lit< tt)).0.1

not_by_one_port : ¬ Keeps copies from_bridge (own_with (dropped [] ∷ dropped [] ∷ []))
not_by_one_port keeps = (keeps 0 no_travel (lit< tt)).0.0

pub each_has_one_copy : EachHasOneCopy
each_has_one_copy = record {
  missing = alone copies split _ refl not_missing;
  twice = alone copies split _ refl not_twice;
  not_told = alone copies split _ refl not_untold;
  lost = alone copies split _ refl not_lost;
  by_one_port = alone copies from_bridge _ refl not_by_one_port;
}

not_later : ¬ Keeps copies split (one_with (copy (hop 13836000 13836001 13836001 26172001 ∷ []) 26672001 ∷ []))
not_later keeps =
    let same : ◌≡◌ {A = ℕ} 13836001 13836000 = ap time_in (keeps 0 no_travel (lit< tt)).0.0.1 in
    absurd (omega arith)

not_come_later : ¬ Keeps copies split (one_with (copy (hop 13836001 13836000 13836000 26172000 ∷ []) 26672000 ∷ []))
not_come_later keeps =
    let same : ◌≡◌ {A = ℕ} 13836001 13836000 = ap (λ (t : Ps). t.0) (keeps 0 no_travel (lit< tt)).0.0.0 in
    absurd (omega arith)

not_in_a_range : ¬ Keeps copies split_ranged (coming 13036007 13036008)
not_in_a_range keeps =
    let same : ◌≡◌ {A = ℕ} 13036008 13036007 = ap (λ (t : Ps). t.0) (keeps 0 no_travel (lit< tt)).0.0.0 in
    absurd (omega arith)

not_at_arrival : ¬ Keeps copies split_by_class (held_with 39180000 26844000 26844000 39180000)
not_at_arrival keeps =
    let same : ◌≡◌ {A = ℕ} 26844000 27276000 = ap time_in (keeps 2 no_travel (lit< tt)).0.0.1 in
    absurd (omega arith)

pub times_are_the_frames : CopiesHaveTheFramesTimes
times_are_the_frames = record {
  later = alone copies split _ refl not_later;
  came_later = alone copies split _ refl not_come_later;
  in_a_range = alone copies split_ranged _ refl not_in_a_range;
  at_its_arrival = alone copies split_by_class _ refl not_at_arrival;
}

not_surviving : ¬ Keeps copies split survivor
not_surviving keeps =
    let same : ◌≡◌ {A = ℕ} 13844000 0 = ap time_in (keeps 0 no_travel (lit< tt)).0.0.1 in
    absurd (omega arith)

not_dropped : ¬ Keeps copies split (one_with (dropped (too_long 13836000 ∷ []) ∷ []))
not_dropped keeps =
    let same : ◌≡◌ {A = ℕ} 0 13836000 = ap time_in (keeps 0 no_travel (lit< tt)).0.0.1 in
    absurd (omega arith)

-- the frame has no record where the last branch begins
not_behind : ¬ Keeps copies tree_and_flow (late_in_tree_with (dropped (late_by 151032001 163368000 ∷ [])))
not_behind keeps =
    let none : ◌≡◌ {A = ℕ} 1 0 = ap length (keeps 2 no_travel (lit< tt)).1.1.0.0 in
    absurd (omega arith)

-- nor did it arrive behind it
not_arrived : ¬ Keeps copies tree_and_flow (late_in_tree_with (copy [] 66680000))
not_arrived keeps = not_discarded (keeps 2 no_travel (lit< tt)).1.1.0.1
  where
    not_discarded : Sink (record { 0 = 66680000 }) ≢ Discard
    not_discarded same = cc

pub discards_are_for_all : DiscardsAreForAll
discards_are_for_all = record {
  goes_on = alone copies split survivor refl not_surviving;
  alone = alone copies split _ refl not_dropped;
  behind_a_discard = alone copies tree_and_flow _ refl not_behind;
  arrives_behind_a_discard = alone copies tree_and_flow _ refl not_arrived;
}

-- at the port of the copies no transmission ends when the copy's starts
gap_there : StartsAfterGap (sent_by split_and_flow (behind_flow_with 26172000 38508000 39008000) 4)
    (get_or (sent_by split_and_flow (behind_flow_with 26172000 38508000 39008000) 4) 0 no_transmission)
gap_there zero d within same = let e : ◌≡◌ {A = ℕ} 38508000 26172000 = same in absurd (omega arith)
gap_there (suc k) d within same = absurd (omega arith)

not_waiting : ¬ Keeps prompt split_and_flow (behind_flow_with 26172000 38508000 39008000)
not_waiting keeps =
    let idle : 26172000 ≤ 13836001 =
    keeps 4 (lit< tt) 0 no_transmission (lit< tt) 0 no_transmission (lit< tt) gap_there (lit≤ tt) in
    absurd (omega arith)

not_late : ¬ Keeps links split (one_with (copy (hop 13836000 13836000 13836000 26172000 ∷ []) 26672001 ∷ []))
not_late keeps =
    let late : 26672001 ≤ 26672000 = ((keeps 4 (lit< tt)).within 0 no_crossing (lit< tt)).latest in
    absurd (omega arith)

-- three frames that come to a group one after the other are judged in this order
judged_in_order : (network : DeclaredNetwork) (port : ℕ) (a b c : Handed)
    → a.crossing.arrival < b.crossing.arrival → b.crossing.arrival < c.crossing.arrival
    → IsJudged ats_judge network port (a ∷ b ∷ c ∷ [])
    → map (λ (f : Handed). f.verdict) (a ∷ b ∷ c ∷ []) ≡ verdicts_of (scheduled_by network port)
    (residence_of_groups network port) (first (scheduled_by network port)) (map offer_of (a ∷ b ∷ c ∷ []))
judged_in_order network port a b c ab bc judged =
    subst (λ (frames : List Handed). map (λ (f : Handed). f.verdict) frames ≡ verdicts_of (scheduled_by network port)
    (residence_of_groups network port) (first (scheduled_by network port)) (map offer_of frames))
    (in_order (λ (f : Handed). f.crossing.arrival) a b c judged.arrivals ab bc judged.same judged.in_order)
    judged.verdicts

-- a frame of a run by its number among those that come to the first bridge in class 6
abbrev frame_in : DeclaredNetwork → List Travel → ℕ → Handed
frame_in network run n = get_or (handed_by network run 0 6) n no_frame

-- the group makes the last of the three frames eligible when it comes
not_counted_twice : ¬ Keeps groups split (counted_with 72220000 72220000)
not_counted_twice keeps =
    let told : map (λ (f : Handed). f.verdict) (handed_by split (counted_with 72220000 72220000) 0 6)
    ≡ verdicts_of (scheduled_by split 0) (residence_of_groups split 0) (first (scheduled_by split 0))
    (map offer_of (handed_by split (counted_with 72220000 72220000) 0 6))
    = judged_in_order split 0 (frame_in split (counted_with 72220000 72220000) 0)
    (frame_in split (counted_with 72220000 72220000) 1) (frame_in split (counted_with 72220000 72220000) 2)
    (lit< tt) (lit< tt) (keeps 0 6 (lit< tt) (lit≤ tt)) in
    let late : ◌≡◌ {A = ℕ} 72220000 13692000 = ap (λ (vs : List Verdict). get_or (map time_in vs) 2 0) told in
    absurd (omega arith)

-- the group makes the last of the three frames eligible when the second is
not_past : ¬ Keeps groups split_by_class past_its_group
not_past keeps =
    let told : map (λ (f : Handed). f.verdict) (handed_by split_by_class past_its_group 0 6)
    ≡ verdicts_of (scheduled_by split_by_class 0) (residence_of_groups split_by_class 0)
    (first (scheduled_by split_by_class 0)) (map offer_of (handed_by split_by_class past_its_group 0 6))
    = judged_in_order split_by_class 0 (frame_in split_by_class past_its_group 0)
    (frame_in split_by_class past_its_group 1) (frame_in split_by_class past_its_group 2)
    (lit< tt) (lit< tt) (keeps 0 6 (lit< tt) (lit≤ tt)) in
    let early : ◌≡◌ {A = ℕ} 26844000 27276000 = ap (λ (vs : List Verdict). get_or (map time_in vs) 2 0) told in
    absurd (omega arith)

pub rules_are_kept : CopiesKeepTheRules
rules_are_kept = record {
  waits_for_the_frame = alone prompt split_and_flow _ refl not_waiting;
  arrives_late = alone links split _ refl not_late;
  counts_twice = alone groups split (counted_with 72220000 72220000) refl not_counted_twice;
  goes_past = alone groups split_by_class past_its_group refl not_past;
}
