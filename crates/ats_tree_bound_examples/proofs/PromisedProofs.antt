use Rattle.std.proofs.Common.{ℕ, ◌≤◌, List, [], ◌∷◌, length, get_or, All, refl, arith, lit<}
use Rattle.std.specs.Prelude.{nat_lt}
use Rattle.std.proofs.lemmas.List.Elements.{All-contains_itself}
use Rattle.ats_network.specs.Network.{IsNetwork}
use Rattle.ats_network.specs.Sender.{stream_sender}
use Rattle.ats_network.specs.Senders.{sender_at}
use Rattle.ats_certificate.specs.declared.row.Row.{Row}
use Rattle.ats_trace.specs.Journey.{Travel, IsOfStream}
use Rattle.ats_trace.specs.Clocks.{IsLegal}
use Rattle.ats_trace.specs.Run.{IsIdeal, releases_of}
use Rattle.ats_trace.specs.Stored.{travel_at}
use Rattle.ats_trace.specs.Talker.{talker_of, KeepsBuckets}
use Rattle.ats_trace.specs.Ways.{route_to}
use Rattle.ats_soundness_law.specs.Sound.{IsContained, IsSound, all_but_first}
use Rattle.ats_soundness_law.specs.TrueTime.{KeepsBucketsIn}
use Rattle.ats_checker.specs.InTime.{ArrivesInTime, FramesAreInTime}
use Rattle.ats_examples.specs.Babbler.{babbler}
use Rattle.ats_examples.specs.Networks.{fork}
use Rattle.ats_examples.proofs.BucketTest.{keeps_by}
use Rattle.ats_examples.proofs.LegalProofs.{babbler_legal}
use Rattle.ats_examples.proofs.NetworkProofs.{fork_is}
use Rattle.ats_examples.proofs.PartTest.{legal_by}
use Rattle.ats_examples.proofs.StationTest.{bridges_in, from_stations, keeps_in, legal_of}
use Rattle.ats_examples.proofs.Tests.{lt_of, all_by}
use Rattle.ats_tree_examples.specs.Networks.{crossed, split, tree_within}
use Rattle.ats_tree_examples.specs.Runs.{crossed_babbler, one_split, over_tree}
use Rattle.ats_tree_examples.specs.Bounds.{tree_rows}
use Rattle.ats_tree_examples.specs.Served.{short_split_rows}
use Rattle.ats_tree_examples.proofs.CopyProofs.{copies_are_legal}
use Rattle.ats_tree_examples.proofs.ServedProofs.{each_listener_counts}
use Rattle.ats_tree_examples.proofs.TreeProofs.{crossed_is, split_is}
use Rattle.ats_tree_bound_examples.specs.InTime.{stream_over_split, tree_stream}
use Rattle.ats_tree_bound_examples.specs.Promised.{FramesAreForEach, SoundIsForEach}
use Rattle.ats_tree_bound_examples.proofs.InTimeProofs.{deadlines_are_for_each}
use Rattle.ats_tree_bound_examples.proofs.RefusalProofs.{within_is}

-- The promises, opened at one run each.

split_kept : KeepsBuckets split (releases_of one_split) (talker_of split 0)
split_kept = keeps_by split (releases_of one_split) (talker_of split 0) refl refl

-- a legal run over the tree, and one over the split
tree_legal : (deadline_ns : ℕ) → IsNetwork (tree_within deadline_ns)
    → IsIdeal (tree_within deadline_ns) (over_tree ∷ []) → IsLegal (tree_within deadline_ns) (over_tree ∷ [])
tree_legal deadline_ns is ideal = legal_of (tree_within deadline_ns) (over_tree ∷ []) is ideal

split_legal : IsLegal split one_split
split_legal = legal_of split one_split split_is copies_are_legal.one

split_kept_in : KeepsBucketsIn split one_split split_legal (talker_of split 0)
split_kept_in = keeps_in split one_split split_legal (talker_of split 0) refl split_kept

over_three : (deadline_ns : ℕ) (rows : List Row) → IsLegal (tree_within deadline_ns) (over_tree ∷ [])
    → KeepsBuckets (tree_within deadline_ns) (releases_of (over_tree ∷ [])) (talker_of (tree_within deadline_ns) 0)
    → FramesAreInTime (tree_within deadline_ns) rows → ArrivesInTime rows (tree_stream deadline_ns) over_tree
over_three deadline_ns rows legal keeps all =
    λ m within. all (over_tree ∷ []) legal over_tree (0, lit< tt, refl) (tree_stream deadline_ns) refl
    (keeps_in (tree_within deadline_ns) (over_tree ∷ []) legal (talker_of (tree_within deadline_ns) 0) refl keeps) m
    within
    (bridges_in (tree_within deadline_ns) (over_tree ∷ []) legal
    (route_to (stream_sender (tree_stream deadline_ns)) m) refl)

over_one : (rows : List Row) → FramesAreInTime split rows
    → ArrivesInTime rows (stream_over_split 1000000) (travel_at one_split 0)
over_one rows all m within = all one_split split_legal (travel_at one_split 0) (0, lit< tt, refl)
    (stream_over_split 1000000) refl split_kept_in m within (bridges_in split one_split split_legal
    (route_to (stream_sender (stream_over_split 1000000)) m) refl)

short_over_one : ¬ ArrivesInTime short_split_rows (stream_over_split 1000000) (travel_at one_split 0)
short_over_one all =
    let late : 26672000 ≤ 26671999 = (all 1 (lit< tt)).sum in absurd (omega arith)

pub frames_are_for_each : FramesAreForEach
frames_are_for_each = record {
  late_for_two = λ all. deadlines_are_for_each.late_for_two.not_in_time
      (over_three 54343 tree_rows
      (tree_legal 54343 (within_is 54343 refl) (legal_by (tree_within 54343) (over_tree ∷ []) refl))
      (keeps_by (tree_within 54343) (releases_of (over_tree ∷ [])) (talker_of (tree_within 54343) 0) refl refl) all);
  late_over_one = λ all. short_over_one (over_one short_split_rows all);
  over_three = λ rows all. over_three 54344 rows
      (tree_legal 54344 (within_is 54344 refl) (legal_by (tree_within 54344) (over_tree ∷ []) refl))
      (keeps_by (tree_within 54344) (releases_of (over_tree ∷ [])) (talker_of (tree_within 54344) 0) refl refl) all;
  over_one = over_one;
}

-- all of its frames are of streams
of_streams : All (IsOfStream crossed) crossed_babbler
of_streams = all_by (IsOfStream crossed) (λ (j : Travel). nat_lt j.release.sender (length crossed.streams))
    (λ j. lt_of j.release.sender (length crossed.streams)) crossed_babbler refl

contained : (rows : List Row) → IsSound crossed rows
    → All (λ (j : Travel). IsContained rows (sender_at crossed j.release.sender) j) crossed_babbler
contained rows sound k d h = (from_stations crossed rows refl sound).contained crossed_babbler
    (legal_of crossed crossed_babbler crossed_is copies_are_legal.babbled) (get_or crossed_babbler k d)
    (All-contains_itself crossed_babbler k d h) (of_streams k d h)

pub sound_is_for_each : SoundIsForEach
sound_is_for_each = record {
  not_served = λ all. each_listener_counts.over_one.not_served
      (λ m within. all one_split split_legal (travel_at one_split 0) (0, lit< tt, refl) (lit< tt) split_kept_in
      m within (bridges_in split one_split split_legal (route_to (sender_at split 0) m) refl));
  not_contained = λ all. each_listener_counts.over_one.not_contained
      (λ m within. all one_split split_legal (travel_at one_split 0) (0, lit< tt, refl) (lit< tt) m within
      (bridges_in split one_split split_legal (all_but_first (route_to (sender_at split 0) m)) refl));
  served = λ rows sound. (from_stations fork rows refl sound).served babbler
      (legal_of fork babbler fork_is babbler_legal)
      (travel_at babbler 0) (0, lit< tt, refl) (lit< tt)
      (keeps_by fork (releases_of babbler) (talker_of fork 0) refl refl);
  contained = contained;
}
