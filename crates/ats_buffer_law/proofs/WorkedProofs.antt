use Rattle.std.proofs.Common.{◌≡◌, ℕ, zero, suc, ◌<◌, ◌≤◌, true, List, [], ◌∷◌, length, refl, arith, lit<, lit≤}
use Rattle.ats_network.specs.Network.{DeclaredNetwork}
use Rattle.ats_certificate.specs.declared.row.Row.{Row}
use Rattle.ats_trace.specs.Clocks.{IsLegal}
use Rattle.ats_trace.specs.Journey.{Travel}
use Rattle.ats_trace.specs.Run.{IsIdeal, releases_of}
use Rattle.ats_trace.specs.Talker.{talker_of, KeepsBuckets}
use Rattle.ats_buffer.specs.Occupancy.{occupancy}
use Rattle.ats_examples.specs.Networks.{line, fork, fork_of_classes}
use Rattle.ats_examples.specs.Rows.{line_rows, fork_rows, hop_rows}
use Rattle.ats_examples.specs.Runs.{one_frame, first_goes_first}
use Rattle.ats_examples.specs.Babbler.{babbler}
use Rattle.ats_examples.specs.ClassBounds.{behind_two}
use Rattle.ats_examples.specs.SoundRuns.{IsCertified}
use Rattle.ats_examples.proofs.BucketTest.{keeps_by}
use Rattle.ats_examples.proofs.ClassBoundProofs.{classes_are_sound}
use Rattle.ats_examples.proofs.LawsMetProofs.{laws_are_met}
use Rattle.ats_examples.proofs.LegalProofs.{examples_legal}
use Rattle.ats_examples.proofs.SoundRunProofs.{babbler_contained}
use Rattle.ats_examples.proofs.StationTest.{begin_at_stations, begin_by, legal_of}
use Rattle.ats_tree_examples.specs.Networks.{split, split_and_flow, split_and_stream, tree}
use Rattle.ats_tree_examples.specs.Runs.{behind_flow, one_split, over_tree, tied_first}
use Rattle.ats_tree_examples.specs.Bounds.{rows_beside_flow, split_rows, tree_rows}
use Rattle.ats_tree_examples.proofs.ServedProofs.{branches_count, listeners_are_served}
use Rattle.ats_buffer_law.specs.Laws.{NodesKeepBuckets, TalkersKeepBuckets}
use Rattle.ats_buffer_law.specs.Worked.{IsHeld, BuffersAreMet, BabblerCounts, CopiesAreHeld, OtherClassesMayBabble}
use Rattle.ats_buffer_law.specs.Worked.{rows_of_shared}
use Rattle.ats_buffer_law.proofs.Held.{buffers_hold, stations_are_asked, talkers_keep}

-- by the law the bits fit
held_by_law : (network : DeclaredNetwork) (rows : List Row) (run : List Travel) (port class time bits : ℕ)
    → IsCertified network rows → IsIdeal network run → 1 ≤ class → begin_at_stations network ≡ true
    → TalkersKeepBuckets network run port class → occupancy network run port class time ≡ bits
    → IsHeld network rows run port class time bits
held_by_law network rows run port class time bits certified ideal some stations talkers there = record {
  legal = legal;
  keep = keep;
  there = there;
  fits = (
      let fits = buffers_hold network rows run port class certified.rules certified.holds legal some keep time in
      omega (arith, fits, there));
}
  where
    legal : IsLegal network run
    legal = legal_of network run certified.rules ideal

    keep : NodesKeepBuckets network run legal port class
    keep = talkers_keep network run legal port class (begin_by network stations) talkers

the_line : IsCertified line line_rows
the_line = record { rules = laws_are_met.network; holds = laws_are_met.holds }

-- the line has one stream
line_keeps : (port : ℕ) → TalkersKeepBuckets line one_frame port 6
line_keeps port zero h ranked = laws_are_met.keeps
line_keeps port (suc i) h ranked = absurd (let one : suc i < 1 = h in omega (arith, one))

-- both streams of the fork keep their buckets
both_keep : TalkersKeepBuckets fork first_goes_first 2 6
both_keep zero h ranked = keeps_by fork (releases_of first_goes_first) (talker_of fork 0) refl refl
both_keep (suc zero) h ranked = keeps_by fork (releases_of first_goes_first) (talker_of fork 1) refl refl
both_keep (suc (suc i)) h ranked = absurd (let two : suc (suc i) < 2 = h in omega (arith, two))

-- of the streams of the fork only the first uses port 0
beside_keeps : TalkersKeepBuckets fork babbler 0 6
beside_keeps zero h ranked = babbler_contained.keeps
beside_keeps (suc zero) h ranked = absurd (let other : 0 ≡ 6 = ranked in omega (arith, other))
beside_keeps (suc (suc i)) h ranked = absurd (let two : suc (suc i) < 2 = h in omega (arith, two))

pub buffers_are_met : BuffersAreMet
buffers_are_met = record {
  line_certified = the_line;
  line_buffers = refl;
  released = held_by_law line line_rows one_frame 0 6 0 12336 the_line examples_legal.one_frame (lit≤ tt) refl
      (line_keeps 0) refl;
  last = held_by_law line line_rows one_frame 0 6 12335999 12336 the_line examples_legal.one_frame
      (lit≤ tt) refl (line_keeps 0) refl;
  ended = refl;
  on_its_way = refl;
  arrived = held_by_law line line_rows one_frame 2 6 13836000 12336 the_line examples_legal.one_frame
      (lit≤ tt) refl (line_keeps 2) refl;
  held_back = refl;
  still_held = refl;
  fork_certified = babbler_contained.certified;
  fork_buffers = refl;
  together = held_by_law fork fork_rows first_goes_first 2 6 13836000 24672
      babbler_contained.certified examples_legal.first_goes_first.legal (lit≤ tt) refl both_keep refl;
  flows_apart = refl;
  flows_own = refl;
}

-- the networks of these runs but one have one stream
one_keeps : (network : DeclaredNetwork) (run : List Travel) (port class : ℕ) → length network.streams ≡ 1
    → KeepsBuckets network (releases_of run) (talker_of network 0) → TalkersKeepBuckets network run port class
one_keeps network run port class one keeps zero h ranked = keeps
one_keeps network run port class one keeps (suc i) h ranked = absurd (omega (arith, h, one))

-- both streams of the other one keep their buckets
tied_keep : TalkersKeepBuckets split_and_stream tied_first 4 6
tied_keep zero h ranked = branches_count.counted.keeps
tied_keep (suc zero) h ranked =
    keeps_by split_and_stream (releases_of tied_first) (talker_of split_and_stream 1) refl refl
tied_keep (suc (suc i)) h ranked = absurd (let two : suc (suc i) < 2 = h in omega (arith, two))

-- what is there of the frame over one bridge, of that behind the flow's, and of that over three bridges
split_held : (port time bits : ℕ) → occupancy split one_split port 6 time ≡ bits
    → IsHeld split split_rows one_split port 6 time bits
split_held port time bits there =
    held_by_law split split_rows one_split port 6 time bits listeners_are_served.over_one.certified
    listeners_are_served.over_one.legal (lit≤ tt) refl
    (one_keeps split one_split port 6 refl listeners_are_served.over_one.keeps) there

busy_held : (port time bits : ℕ) → occupancy split_and_flow behind_flow port 6 time ≡ bits
    → IsHeld split_and_flow rows_beside_flow behind_flow port 6 time bits
busy_held port time bits there =
    held_by_law split_and_flow rows_beside_flow behind_flow port 6 time bits listeners_are_served.one_busy.certified
    listeners_are_served.one_busy.legal (lit≤ tt) refl
    (one_keeps split_and_flow behind_flow port 6 refl listeners_are_served.one_busy.keeps) there

pub copies_are_held : CopiesAreHeld
copies_are_held = record {
  split_certified = listeners_are_served.over_one.certified;
  split_buffers = refl;
  at_talker = split_held 0 0 12336 refl;
  on_trunk = split_held 2 13836000 12336 refl;
  on_branch = split_held 4 13836000 12336 refl;
  flow_certified = listeners_are_served.one_busy.certified;
  flow_buffers = refl;
  waiting = busy_held 2 26172001 12336 refl;
  copy_there = busy_held 4 26172000 12336 refl;
  copy_gone = refl;
  shared_certified = branches_count.counted.certified;
  shared_buffers = refl;
  together = held_by_law split_and_stream rows_of_shared tied_first 4 6 13836000 24672
      branches_count.counted.certified branches_count.counted.legal (lit≤ tt) refl tied_keep refl;
  tree_certified = listeners_are_served.over_three.certified;
  tree_buffers = refl;
  last_copy = held_by_law tree tree_rows (over_tree ∷ []) 12 6 41508000 12336
      listeners_are_served.over_three.certified listeners_are_served.over_three.legal (lit≤ tt) refl
      (one_keeps tree (over_tree ∷ []) 12 6 refl listeners_are_served.over_three.keeps) refl;
}

pub babbler_counts : BabblerCounts
babbler_counts = record {
  certified = babbler_contained.certified;
  beside = held_by_law fork fork_rows babbler 0 6 0 12336 babbler_contained.certified
      babbler_contained.legal (lit≤ tt) refl beside_keeps refl;
  not_kept = λ legal keep. babbler_contained.babbles
      (((stations_are_asked fork babbler 4 6 (begin_by fork refl)).by_clocks legal).0 keep 1 (lit< tt) refl);
  over = lit< tt;
  held = refl;
}

-- of the streams of the fork of classes only the first has class 5 at the bridge
lower_keeps : TalkersKeepBuckets fork_of_classes (behind_two 6719999) 2 5
lower_keeps zero h ranked =
    keeps_by fork_of_classes (releases_of (behind_two 6719999)) (talker_of fork_of_classes 0) refl refl
lower_keeps (suc zero) h ranked = absurd (let other : 6 ≡ 5 = ranked in omega (arith, other))
lower_keeps (suc (suc i)) h ranked = absurd (let two : suc (suc i) < 2 = h in omega (arith, two))

pub other_classes_may_babble : OtherClassesMayBabble
other_classes_may_babble = record {
  certified = classes_are_sound.certified;
  held = held_by_law fork_of_classes hop_rows (behind_two 6719999) 2 5 13836000 12336 classes_are_sound.certified
      classes_are_sound.sooner (lit≤ tt) refl lower_keeps refl;
  babbles = classes_are_sound.too_soon;
  not_kept = λ legal keep. classes_are_sound.too_soon
      (((stations_are_asked fork_of_classes (behind_two 6719999) 2 6 (begin_by fork_of_classes refl)).by_clocks
      legal).0 keep 1 (lit< tt) refl);
}
