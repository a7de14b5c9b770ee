use Rattle.std.proofs.Common.{◌≡◌, ◌≢◌, ℕ, ◌+◌, ◌<◌, ◌≤◌, true, List, refl, sym, subst, arith, inl, inr, lit<}
use Rattle.std.specs.Prelude.{Contains}
use Rattle.ats_network.specs.Network.{DeclaredNetwork, IsNetwork}
use Rattle.ats_network.specs.Senders.{sender_at}
use Rattle.ats_certificate.specs.Certificate.{bound_at}
use Rattle.ats_certificate.specs.declared.row.Row.{Row}
use Rattle.ats_trace.specs.Journey.{Travel, IsOfStream}
use Rattle.ats_trace.specs.Run.{IsIdeal, releases_of}
use Rattle.ats_trace.specs.Stored.{travel_at}
use Rattle.ats_trace.specs.Talker.{talker_of, KeepsBuckets}
use Rattle.ats_soundness_law.specs.Sound.{IsServed, IsSound}
use Rattle.ats_soundness_law.specs.Rules.{Rule, rows_are_there, higher_is_right, equal_is_right, bursts_are_right}
use Rattle.ats_soundness_law.specs.Rules.{lower_is_right, least_is_right, bound_follows, load_fits, wait_is_enough}
use Rattle.ats_soundness_law.specs.Rules.{frames_may_stay, Keeps, RestHolds}
use Rattle.ats_soundness_law.proofs.TrueTime.{sound_by_clocks}
use Rattle.ats_examples.specs.Networks.{line, line_and_flow, pair, below, fast}
use Rattle.ats_examples.specs.Runs.{one_frame, behind_a_flow}
use Rattle.ats_examples.proofs.LegalProofs.{examples_legal}
use Rattle.ats_examples.specs.Rows.{fast_rows}
use Rattle.ats_examples.specs.RuleBreaks.{network_for, rows_for, BreaksAlone, EachRuleCounts}
use Rattle.ats_examples.proofs.NetworkProofs.{line_is, pair_is, below_is, fast_is, with_flow_is}
use Rattle.ats_examples.proofs.RuleRuns.{of_two, of_three, of_classes, of_fast, two_legal, two_kept, three_legal}
use Rattle.ats_examples.proofs.RuleRuns.{three_kept, classes_legal, classes_kept, fast_legal, fast_kept, flow_legal}
use Rattle.ats_examples.proofs.RuleRuns.{flow_kept, one_kept}
use Rattle.ats_examples.proofs.RuleTest.{same_rule, others_pass, others_by, rest_passes, rest_by}
use Rattle.ats_examples.proofs.StationTest.{begin_at_stations, from_stations, legal_of}

-- where a frame of a legal run, whose talker keeps its buckets, is not served, the rows are not sound
pub unsound_by : (network : DeclaredNetwork) (given : List Row) (run : List Travel) (frame : ℕ) → IsNetwork network
    → begin_at_stations network ≡ true → IsIdeal network run → Contains run (travel_at run frame)
    → IsOfStream network (travel_at run frame)
    → KeepsBuckets network (releases_of run) (talker_of network (travel_at run frame).release.sender)
    → ¬ IsServed given (sender_at network (travel_at run frame).release.sender) (travel_at run frame)
    → ¬ IsSound network given
unsound_by network given run frame is stations ideal among stream keeps unserved sound =
    unserved ((from_stations network given stations sound).served run (legal_of network run is ideal)
    (travel_at run frame) among stream keeps)

-- one rule and all others are all
each : (rule : Rule) (network : DeclaredNetwork) (given : List Row)
    → ((other : Rule) → other ≢ rule → Keeps other network given) → Keeps rule network given → (other : Rule)
    → Keeps other network given
each rule network given others kept other =
    elim (same_rule other rule) [
      | inl same ↦ subst (λ (r : Rule). Keeps r network given) (sym same) kept
      | inr differ ↦ others other differ
    ]

-- what breaks a rule alone
pub breaks : (rule : Rule) (network : DeclaredNetwork) (given : List Row) → IsNetwork network
    → ((other : Rule) → other ≢ rule → Keeps other network given) → RestHolds network given → ¬ IsSound network given
    → BreaksAlone rule network given
breaks rule network given is others rest unsound = record {
  is_network = is;
  broken = λ kept. unsound (sound_by_clocks network given is (each rule network given others kept));
  others = others;
  rest = rest;
  unsound = unsound;
}

-- the bound of port 0 lies before the eligibility of the second frame
two_unserved : (given : List Row) → bound_at given 0 6 < 14508000
    → ¬ IsServed given (sender_at (pair 1000000) 0) (travel_at of_two 1)
two_unserved given short served =
    let late : 14508000 ≤ 0 + bound_at given 0 6 = (served 0 (lit< tt)).prompt.1.0 in
    absurd (omega arith)

two_unsound : (given : List Row) → bound_at given 0 6 < 14508000 → ¬ IsSound (pair 1000000) given
two_unsound given short =
    unsound_by (pair 1000000) given of_two 1 (pair_is 1000000 refl refl) refl two_legal (1, lit< tt, refl) (lit< tt)
    two_kept
    (two_unserved given short)

-- the third frame is discarded
three_unsound : (given : List Row) → ¬ IsSound (pair 12335) given
three_unsound given = unsound_by (pair 12335) given of_three 2 (pair_is 12335 refl refl) refl three_legal
    (2, lit< tt, refl) (lit< tt) three_kept
    (λ served. (served 0 (lit< tt)).prompt.1)

fast_unserved : (equal : ℕ) → ¬ IsServed (fast_rows equal) (sender_at fast 0) (travel_at of_fast 1)
fast_unserved equal served =
    let late : 26172000 ≤ 6168000 + 13836000 = (served 0 (lit< tt)).prompt.1.0 in
    absurd (omega arith)

fast_unsound : (equal : ℕ) → ¬ IsSound fast (fast_rows equal)
fast_unsound equal =
    unsound_by fast (fast_rows equal) of_fast 1 fast_is refl fast_legal (1, lit< tt, refl) (lit< tt) fast_kept
    (fast_unserved equal)

higher_unserved : ¬ IsServed (rows_for higher_is_right) (sender_at below 0) (travel_at of_classes 1)
higher_unserved served =
    let late : 15180000 ≤ 0 + 14508000 = (served 0 (lit< tt)).prompt.1.0 in
    absurd (omega arith)

flow_unserved : ¬ IsServed (rows_for lower_is_right) (sender_at line_and_flow 0) (travel_at behind_a_flow 1)
flow_unserved served =
    let late : 26172000 ≤ 1 + 13836000 = (served 0 (lit< tt)).prompt.1.0 in
    absurd (omega arith)

missing_unserved : ¬ IsServed (rows_for rows_are_there) (sender_at line 0) (travel_at one_frame 0)
missing_unserved served =
    let late : 26672000 ≤ 0 + 13836000 = (served 0 (lit< tt)).arrives in
    absurd (omega arith)

-- by the rules that are kept, and the run that shows that it counts
at_rule : (rule : Rule) → IsNetwork (network_for rule) → others_pass rule (network_for rule) (rows_for rule) ≡ true
    → rest_passes (network_for rule) (rows_for rule) ≡ true
    → ¬ IsSound (network_for rule) (rows_for rule) → BreaksAlone rule (network_for rule) (rows_for rule)
at_rule rule is kept rest unsound =
    breaks rule (network_for rule) (rows_for rule) is (others_by rule (network_for rule) (rows_for rule) kept)
    (rest_by (network_for rule) (rows_for rule) rest) unsound

pub each_rule_counts : EachRuleCounts
each_rule_counts rows_are_there = at_rule rows_are_there line_is refl refl (unsound_by line (rows_for rows_are_there)
    one_frame 0 line_is refl examples_legal.one_frame (0, lit< tt, refl) (lit< tt) one_kept missing_unserved)
each_rule_counts higher_is_right = at_rule higher_is_right below_is refl refl (unsound_by below
    (rows_for higher_is_right) of_classes 1 below_is refl classes_legal (1, lit< tt, refl) (lit< tt) classes_kept
    higher_unserved)
each_rule_counts equal_is_right = at_rule equal_is_right fast_is refl refl (fast_unsound 1000000000000)
each_rule_counts bursts_are_right =
    at_rule bursts_are_right (pair_is 1000000 refl refl) refl refl (two_unsound (rows_for bursts_are_right) (lit< tt))
each_rule_counts lower_is_right = at_rule lower_is_right with_flow_is refl refl (unsound_by line_and_flow
    (rows_for lower_is_right) behind_a_flow 1 with_flow_is refl flow_legal (1, lit< tt, refl) (lit< tt) flow_kept
    flow_unserved)
each_rule_counts least_is_right =
    at_rule least_is_right (pair_is 12335 refl refl) refl refl (three_unsound (rows_for least_is_right))
each_rule_counts bound_follows =
    at_rule bound_follows (pair_is 1000000 refl refl) refl refl (two_unsound (rows_for bound_follows) (lit< tt))
each_rule_counts load_fits = at_rule load_fits fast_is refl refl (fast_unsound 2000000000000)
each_rule_counts wait_is_enough =
    at_rule wait_is_enough (pair_is 1000000 refl refl) refl refl (two_unsound (rows_for wait_is_enough) (lit< tt))
each_rule_counts frames_may_stay =
    at_rule frames_may_stay (pair_is 12335 refl refl) refl refl (three_unsound (rows_for frames_may_stay))
