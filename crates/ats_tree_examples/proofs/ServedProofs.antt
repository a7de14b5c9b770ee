use Rattle.std.proofs.Common.{◌≡◌, ℕ, ◌+◌, ◌*◌, ◌<◌, ◌≤◌, true, List, [], ◌∷◌, length, get_or, All, refl, arith, lit<}
use Rattle.std.proofs.Common.{lit≤}
use Rattle.std.specs.Prelude.{nat_lt, Contains}
use Rattle.std.proofs.lemmas.List.Elements.{All-cons, All-nil, All-contains_itself}
use Rattle.ats_network.specs.Network.{DeclaredNetwork}
use Rattle.ats_network.specs.Senders.{sender_at}
use Rattle.ats_certificate.specs.declared.row.Row.{Row}
use Rattle.ats_soundness_law.specs.Rules.{bursts_are_right, frames_may_stay}
use Rattle.ats_soundness_law.specs.Sound.{IsServed}
use Rattle.ats_soundness_law.proofs.TrueTime.{certificate_is_sound}
use Rattle.ats_trace.specs.Journey.{Travel, IsOfStream}
use Rattle.ats_trace.specs.Run.{IsIdeal, releases_of}
use Rattle.ats_trace.specs.Stored.{travel_at}
use Rattle.ats_trace.specs.Talker.{talker_of, KeepsBuckets}
use Rattle.ats_trace.specs.Ways.{listener_count}
use Rattle.ats_examples.specs.SoundRuns.{IsCertified}
use Rattle.ats_examples.proofs.BucketTest.{keeps_by}
use Rattle.ats_examples.proofs.PartTest.{legal_by}
use Rattle.ats_examples.proofs.RuleProofs.{breaks, unsound_by}
use Rattle.ats_examples.proofs.RuleTest.{holds_by, others_by, rest_by}
use Rattle.ats_examples.proofs.SoundRunProofs.{served_in, contained_in}
use Rattle.ats_examples.proofs.StationTest.{begin_at_stations, from_stations, legal_of}
use Rattle.ats_examples.proofs.Tests.{lt_of, all_by}
use Rattle.ats_tree_examples.specs.Networks.{split, split_and_flow, split_and_stream, crossed, tree, tree_and_flow}
use Rattle.ats_tree_examples.specs.Runs.{one_split, behind_flow, tied_first, crossed_babbler, over_tree, late_in_tree}
use Rattle.ats_tree_examples.specs.Bounds.{split_rows, rows_beside_flow, crossed_rows, tree_rows}
use Rattle.ats_tree_examples.specs.Served.{BabblersAreContained, BranchesCount, IsLateServed, IsServedAt}
use Rattle.ats_tree_examples.specs.Served.{ListenersAreServed, StayCounts, endings_of, arrivals, late_at_last}
use Rattle.ats_tree_examples.specs.Served.{EachListenerCounts, IsContainedTo, IsLateFor, IsServedTo}
use Rattle.ats_tree_examples.specs.Served.{rows_of_no_stay, rows_with_bursts, short_split_rows, short_tree_rows}
use Rattle.ats_tree_examples.proofs.CopyProofs.{copies_are_legal}
use Rattle.ats_tree_examples.proofs.BoundProofs.{listeners_have_bounds}
use Rattle.ats_tree_examples.proofs.TreeProofs.{split_is, split_and_flow_is, split_and_stream_is, crossed_is, tree_is}
use Rattle.ats_tree_examples.proofs.TreeProofs.{tree_and_flow_is}

-- by the path law
served_at : (network : DeclaredNetwork) (rows : List Row) (run : List Travel) (frame : ℕ) (times : List ℕ)
    → IsCertified network rows → begin_at_stations network ≡ true → IsIdeal network run
    → Contains run (travel_at run frame)
    → IsOfStream network (travel_at run frame)
    → KeepsBuckets network (releases_of run) (talker_of network (travel_at run frame).release.sender)
    → endings_of (travel_at run frame) ≡ arrivals times → IsServedAt network rows run frame times
served_at network rows run frame times certified stations legal among stream keeps arrives = record {
  certified = certified;
  legal = legal;
  keeps = keeps;
  served = served_in network rows run (travel_at run frame) certified stations legal among stream keeps;
  arrives = arrives;
}

split_certified : IsCertified split split_rows
split_certified = record { rules = split_is; holds = listeners_have_bounds.over_one.holds }

busy_certified : IsCertified split_and_flow rows_beside_flow
busy_certified = record { rules = split_and_flow_is; holds = listeners_have_bounds.beside_flow.holds }

crossed_certified : IsCertified crossed crossed_rows
crossed_certified = record { rules = crossed_is; holds = listeners_have_bounds.against.holds }

tree_certified : IsCertified tree tree_rows
tree_certified = record { rules = tree_is; holds = listeners_have_bounds.over_three.holds }

-- the last listener's arrival is 1 ps behind the sum
not_later : ¬ IsServed tree_rows (sender_at tree 0) late_at_last
not_later served =
    let late : 54344001 ≤ 0 + 54344000 = (served 3 (lit< tt)).arrives in
    absurd (omega arith)

last_kept : KeepsBuckets tree (releases_of (late_at_last ∷ [])) (talker_of tree 0)
last_kept = keeps_by tree (releases_of (late_at_last ∷ [])) (talker_of tree 0) refl refl

pub listeners_are_served : ListenersAreServed
listeners_are_served = record {
  over_one = served_at split split_rows one_split 0 _ split_certified refl copies_are_legal.one (0, lit< tt, refl)
      (lit< tt) (keeps_by split (releases_of one_split) (talker_of split 0) refl refl) refl;
  over_three = served_at tree tree_rows (over_tree ∷ []) 0 _ tree_certified refl copies_are_legal.to_four
      (0, lit< tt, refl) (lit< tt) (keeps_by tree (releases_of (over_tree ∷ [])) (talker_of tree 0) refl refl) refl;
  one_busy = served_at split_and_flow rows_beside_flow behind_flow 1 _ busy_certified refl copies_are_legal.one_busy
      (1, lit< tt, refl) (lit< tt)
      (keeps_by split_and_flow (releases_of behind_flow) (talker_of split_and_flow 0) refl refl) refl;
  not_later = not_later;
  no_such_run = λ legal. not_later ((from_stations tree tree_rows refl
      (certificate_is_sound tree tree_rows tree_is tree_certified.holds)).served (late_at_last ∷ []) legal late_at_last
      (0, lit< tt, refl) (lit< tt) last_kept);
}

-- 19 of the babbler's frames are more than its burst
babbles : ¬ KeepsBuckets crossed (releases_of crossed_babbler) (talker_of crossed 1)
babbles keeps =
    let over : 1000000000000 * 12768 ≤ 100000000 * 0 + 1000000000000 * 12336 =
    (keeps.streams 1 (lit< tt) refl).within 0 18 (lit≤ tt) (lit< tt) in
    absurd (omega arith)

of_streams : All (IsOfStream crossed) crossed_babbler
of_streams = all_by (IsOfStream crossed) (λ (j : Travel). nat_lt j.release.sender (length crossed.streams))
    (λ j. lt_of j.release.sender (length crossed.streams)) crossed_babbler refl

pub babblers_are_contained : BabblersAreContained
babblers_are_contained = record {
  certified = crossed_certified;
  legal = copies_are_legal.babbled;
  babbles = babbles;
  not_served = λ served. (served 1 (lit< tt)).prompt.1;
  served = served_at crossed crossed_rows crossed_babbler 0 _ crossed_certified refl copies_are_legal.babbled
      (0, lit< tt, refl) (lit< tt)
      (keeps_by crossed (releases_of crossed_babbler) (talker_of crossed 0) refl refl) refl;
  contained = λ k d h. contained_in crossed crossed_rows crossed_babbler (get_or crossed_babbler k d) crossed_certified
      refl (legal_of crossed crossed_babbler crossed_is copies_are_legal.babbled)
      (All-contains_itself crossed_babbler k d h) (of_streams k d h);
}

tied_legal : IsIdeal split_and_stream tied_first
tied_legal = legal_by split_and_stream tied_first refl

tied_kept : KeepsBuckets split_and_stream (releases_of tied_first) (talker_of split_and_stream 0)
tied_kept = keeps_by split_and_stream (releases_of tied_first) (talker_of split_and_stream 0) refl refl

-- the copy comes behind the other stream's frame
left_out_unserved : ¬ IsServed (rows_with_bursts 12336 11664000 12836000) (sender_at split_and_stream 0)
    (travel_at tied_first 1)
left_out_unserved served =
    let late : 39008000 ≤ 0 + 26672000 = (served 1 (lit< tt)).arrives in
    absurd (omega arith)

pub branches_count : BranchesCount
branches_count = record {
  left_out = breaks bursts_are_right split_and_stream (rows_with_bursts 12336 11664000 12836000) split_and_stream_is
      (others_by bursts_are_right split_and_stream (rows_with_bursts 12336 11664000 12836000) refl)
      (rest_by split_and_stream (rows_with_bursts 12336 11664000 12836000) refl)
      (unsound_by split_and_stream (rows_with_bursts 12336 11664000 12836000) tied_first 1 split_and_stream_is
      refl tied_legal (1, lit< tt, refl) (lit< tt) tied_kept left_out_unserved);
  counted = served_at split_and_stream (rows_with_bursts 24672 24000000 25172000) tied_first 1 _
      (record {
        rules = split_and_stream_is;
        holds = holds_by split_and_stream (rows_with_bursts 24672 24000000 25172000) refl refl;
      })
      refl tied_legal (1, lit< tt, refl) (lit< tt) tied_kept refl;
}

late_kept : KeepsBuckets tree_and_flow (releases_of late_in_tree) (talker_of tree_and_flow 0)
late_kept = keeps_by tree_and_flow (releases_of late_in_tree) (talker_of tree_and_flow 0) refl refl

pub stay_counts : StayCounts
stay_counts = record {
  alone = breaks frames_may_stay tree_and_flow rows_of_no_stay tree_and_flow_is
      (others_by frames_may_stay tree_and_flow rows_of_no_stay refl) (rest_by tree_and_flow rows_of_no_stay refl)
      (unsound_by tree_and_flow rows_of_no_stay late_in_tree 2 tree_and_flow_is refl copies_are_legal.late_behind_one
      (2, lit< tt, refl) (lit< tt) late_kept (λ served. (served 0 (lit< tt)).prompt.1.1));
  legal = copies_are_legal.late_behind_one;
  keeps = late_kept;
  before = record { prompt = (lit≤ tt, (lit≤ tt, lit≤ tt)); arrives = lit≤ tt };
  not_behind =
      All-cons (λ listener. ¬ IsLateServed listener) 0 (2 ∷ 3 ∷ []) (λ served. served.prompt.1.1)
      (All-cons (λ listener. ¬ IsLateServed listener) 2 (3 ∷ []) (λ served. served.prompt.1.1)
      (All-cons (λ listener. ¬ IsLateServed listener) 3 [] (λ served. served.prompt.1.1)
      (All-nil (λ listener. ¬ IsLateServed listener))));
}

-- a frame that is neither served nor contained on its way to some listener is neither
late_for : (network : DeclaredNetwork) (rows : List Row) (j : Travel) (listener : ℕ) (others : List ℕ)
    → listener < listener_count (sender_at network 0) → All (IsServedTo network rows j) others
    → All (IsContainedTo network rows j) others → ¬ IsServedTo network rows j listener
    → ¬ IsContainedTo network rows j listener → IsLateFor network rows j listener others
late_for network rows j listener others within served contained late broken = record {
  others_served = served;
  others_contained = contained;
  not_there = late;
  not_contained_there = broken;
  not_served = λ all. late (all listener within);
  not_contained = λ all. broken (all listener within);
}

-- what each of three numbers keeps, all do
of_three : (P : ℕ → Type 0) (a b c : ℕ) → P a → P b → P c → All P (a ∷ b ∷ c ∷ [])
of_three P a b c x y z = All-cons P a (b ∷ c ∷ []) x (All-cons P b (c ∷ []) y (All-cons P c [] z (All-nil P)))

-- by the times of the frame over one bridge
split_late : IsLateFor split short_split_rows (travel_at one_split 0) 1 (0 ∷ [])
split_late = late_for split short_split_rows (travel_at one_split 0) 1 (0 ∷ []) (lit< tt)
    (All-cons (IsServedTo split short_split_rows (travel_at one_split 0)) 0 []
    (record { prompt = (lit≤ tt, (lit≤ tt, lit≤ tt)); arrives = lit≤ tt })
    (All-nil (IsServedTo split short_split_rows (travel_at one_split 0))))
    (All-cons (IsContainedTo split short_split_rows (travel_at one_split 0)) 0 [] (lit≤ tt)
    (All-nil (IsContainedTo split short_split_rows (travel_at one_split 0))))
    (λ served. let late : 26672000 ≤ 26671999 = served.arrives in absurd (omega arith))
    (λ h. let late : 26672000 ≤ 26671999 = h in absurd (omega arith))

late_for_first : IsLateFor tree (short_tree_rows 4) over_tree 0 (1 ∷ 2 ∷ 3 ∷ [])
late_for_first = late_for tree (short_tree_rows 4) over_tree 0 (1 ∷ 2 ∷ 3 ∷ []) (lit< tt)
    (of_three (IsServedTo tree (short_tree_rows 4) over_tree) 1 2 3
    (record { prompt = (lit≤ tt, (lit≤ tt, lit≤ tt)); arrives = lit≤ tt })
    (record { prompt = (lit≤ tt, (lit≤ tt, (lit≤ tt, (lit≤ tt, lit≤ tt)))); arrives = lit≤ tt })
    (record { prompt = (lit≤ tt, (lit≤ tt, (lit≤ tt, (lit≤ tt, lit≤ tt)))); arrives = lit≤ tt }))
    (of_three (IsContainedTo tree (short_tree_rows 4) over_tree) 1 2 3
    (lit≤ tt) (lit≤ tt, (lit≤ tt, lit≤ tt)) (lit≤ tt, (lit≤ tt, lit≤ tt)))
    (λ served. let late : 40508000 ≤ 40507999 = served.arrives in absurd (omega arith))
    (λ h. let late : 40508000 ≤ 40507999 = h.1 in absurd (omega arith))

late_for_second : IsLateFor tree (short_tree_rows 6) over_tree 1 (0 ∷ 2 ∷ 3 ∷ [])
late_for_second = late_for tree (short_tree_rows 6) over_tree 1 (0 ∷ 2 ∷ 3 ∷ []) (lit< tt)
    (of_three (IsServedTo tree (short_tree_rows 6) over_tree) 0 2 3
    (record { prompt = (lit≤ tt, (lit≤ tt, (lit≤ tt, lit≤ tt))); arrives = lit≤ tt })
    (record { prompt = (lit≤ tt, (lit≤ tt, (lit≤ tt, (lit≤ tt, lit≤ tt)))); arrives = lit≤ tt })
    (record { prompt = (lit≤ tt, (lit≤ tt, (lit≤ tt, (lit≤ tt, lit≤ tt)))); arrives = lit≤ tt }))
    (of_three (IsContainedTo tree (short_tree_rows 6) over_tree) 0 2 3
    (lit≤ tt, lit≤ tt) (lit≤ tt, (lit≤ tt, lit≤ tt)) (lit≤ tt, (lit≤ tt, lit≤ tt)))
    (λ served. let late : 26672000 ≤ 26671999 = served.arrives in absurd (omega arith))
    (λ h. let late : 26672000 ≤ 26671999 = h in absurd (omega arith))

late_for_third : IsLateFor tree (short_tree_rows 10) over_tree 2 (0 ∷ 1 ∷ 3 ∷ [])
late_for_third = late_for tree (short_tree_rows 10) over_tree 2 (0 ∷ 1 ∷ 3 ∷ []) (lit< tt)
    (of_three (IsServedTo tree (short_tree_rows 10) over_tree) 0 1 3
    (record { prompt = (lit≤ tt, (lit≤ tt, (lit≤ tt, lit≤ tt))); arrives = lit≤ tt })
    (record { prompt = (lit≤ tt, (lit≤ tt, lit≤ tt)); arrives = lit≤ tt })
    (record { prompt = (lit≤ tt, (lit≤ tt, (lit≤ tt, (lit≤ tt, lit≤ tt)))); arrives = lit≤ tt }))
    (of_three (IsContainedTo tree (short_tree_rows 10) over_tree) 0 1 3
    (lit≤ tt, lit≤ tt) (lit≤ tt) (lit≤ tt, (lit≤ tt, lit≤ tt)))
    (λ served. let late : 54344000 ≤ 54343999 = served.arrives in absurd (omega arith))
    (λ h. let late : 54344000 ≤ 54343999 = h.1.1 in absurd (omega arith))

late_for_fourth : IsLateFor tree (short_tree_rows 12) over_tree 3 (0 ∷ 1 ∷ 2 ∷ [])
late_for_fourth = late_for tree (short_tree_rows 12) over_tree 3 (0 ∷ 1 ∷ 2 ∷ []) (lit< tt)
    (of_three (IsServedTo tree (short_tree_rows 12) over_tree) 0 1 2
    (record { prompt = (lit≤ tt, (lit≤ tt, (lit≤ tt, lit≤ tt))); arrives = lit≤ tt })
    (record { prompt = (lit≤ tt, (lit≤ tt, lit≤ tt)); arrives = lit≤ tt })
    (record { prompt = (lit≤ tt, (lit≤ tt, (lit≤ tt, (lit≤ tt, lit≤ tt)))); arrives = lit≤ tt }))
    (of_three (IsContainedTo tree (short_tree_rows 12) over_tree) 0 1 2
    (lit≤ tt, lit≤ tt) (lit≤ tt) (lit≤ tt, (lit≤ tt, lit≤ tt)))
    (λ served. let late : 54344000 ≤ 54343999 = served.arrives in absurd (omega arith))
    (λ h. let late : 54344000 ≤ 54343999 = h.1.1 in absurd (omega arith))

pub each_listener_counts : EachListenerCounts
each_listener_counts = record {
  over_one = split_late;
  not_sound = unsound_by split short_split_rows one_split 0 split_is refl copies_are_legal.one (0, lit< tt, refl)
      (lit< tt)
      (keeps_by split (releases_of one_split) (talker_of split 0) refl refl) split_late.not_served;
  for_first = late_for_first;
  for_second = late_for_second;
  for_third = late_for_third;
  for_fourth = late_for_fourth;
}
