use Rattle.std.proofs.Common.{ℕ, ◌<◌, ◌≤◌, [], ◌∷◌, List, All, refl, arith, lit<, lit≤}
use Rattle.std.proofs.lemmas.List.Elements.{All-cons, All-nil}
use Rattle.ats_streams.specs.Stream.{DeclaredStream}
use Rattle.ats_network.specs.Sender.{stream_sender}
use Rattle.ats_certificate.specs.declared.row.Row.{Row}
use Rattle.ats_trace.specs.Clocks.{IsLegal}
use Rattle.ats_trace.specs.Journey.{Travel}
use Rattle.ats_trace.specs.Run.{releases_of}
use Rattle.ats_trace.specs.Stored.{travel_at}
use Rattle.ats_trace.specs.Talker.{talker_of}
use Rattle.ats_trace.specs.Ways.{listener_count, route_to}
use Rattle.ats_soundness_law.specs.TrueTime.{KeepsBucketsIn}
use Rattle.ats_checker.specs.InTime.{ArrivesInTime, FramesAreInTime}
use Rattle.ats_checker.proofs.InTime.{holding_is_in_time}
use Rattle.ats_examples.proofs.BucketTest.{keeps_by}
use Rattle.ats_examples.proofs.PartTest.{legal_by}
use Rattle.ats_examples.proofs.RuleTest.{holds_by}
use Rattle.ats_examples.proofs.StationTest.{bridges_in, keeps_in, legal_of}
use Rattle.ats_tree_examples.specs.Networks.{tree_within}
use Rattle.ats_tree_examples.specs.Runs.{one_split, over_tree}
use Rattle.ats_tree_examples.specs.Bounds.{tree_rows}
use Rattle.ats_tree_examples.specs.Served.{short_split_rows, short_tree_rows}
use Rattle.ats_tree_bound_examples.specs.InTime.{ArrivesAt, DeadlinesAreForEach, IsLateAt, stream_over_split}
use Rattle.ats_tree_bound_examples.specs.InTime.{tree_stream}
use Rattle.ats_tree_bound_examples.proofs.RefusalProofs.{within_is}

-- by the law of certificates that hold
in_time : FramesAreInTime (tree_within 54344) tree_rows
in_time = holding_is_in_time (tree_within 54344) tree_rows (within_is 54344 refl)
    (holds_by (tree_within 54344) tree_rows refl refl)

-- a legal run over the tree, whose talker keeps its buckets
legal : IsLegal (tree_within 54344) (over_tree ∷ [])
legal = legal_of (tree_within 54344) (over_tree ∷ []) (within_is 54344 refl)
    (legal_by (tree_within 54344) (over_tree ∷ []) refl)

kept : KeepsBucketsIn (tree_within 54344) (over_tree ∷ []) legal (talker_of (tree_within 54344) 0)
kept = keeps_in (tree_within 54344) (over_tree ∷ []) legal (talker_of (tree_within 54344) 0) refl
    (keeps_by (tree_within 54344) (releases_of (over_tree ∷ [])) (talker_of (tree_within 54344) 0) refl refl)

met : ArrivesInTime tree_rows (tree_stream 54344) over_tree
met m within = in_time (over_tree ∷ []) legal over_tree (0, lit< tt, refl) (tree_stream 54344) refl kept m within
    (bridges_in (tree_within 54344) (over_tree ∷ []) legal (route_to (stream_sender (tree_stream 54344)) m) refl)

-- a frame that is late at some listener is not in time
late_at : (rows : List Row) (stream : DeclaredStream) (j : Travel) (first : ℕ) (late others : List ℕ)
    → first < listener_count (stream_sender stream) → ¬ ArrivesAt rows stream j first
    → All (λ listener. ¬ ArrivesAt rows stream j listener) late → All (ArrivesAt rows stream j) others
    → IsLateAt rows stream j (first ∷ late) others
late_at rows stream j first late others within not_there not_those there = record {
  in_time = there;
  late = All-cons (λ listener. ¬ ArrivesAt rows stream j listener) first late not_there not_those;
  not_in_time = λ all. not_there (all first within);
}

late_for_two : IsLateAt tree_rows (tree_stream 54343) over_tree (2 ∷ 3 ∷ []) (0 ∷ 1 ∷ [])
late_for_two = late_at tree_rows (tree_stream 54343) over_tree 2 (3 ∷ []) (0 ∷ 1 ∷ []) (lit< tt)
    (λ there. let late : 54344000 ≤ 54343000 = there.deadline in absurd (omega arith))
    (All-cons (λ listener. ¬ ArrivesAt tree_rows (tree_stream 54343) over_tree listener) 3 []
    (λ there. let late : 54344000 ≤ 54343000 = there.deadline in absurd (omega arith))
    (All-nil (λ listener. ¬ ArrivesAt tree_rows (tree_stream 54343) over_tree listener)))
    (All-cons (ArrivesAt tree_rows (tree_stream 54343) over_tree) 0 (1 ∷ [])
    (record { sum = lit≤ tt; deadline = lit≤ tt })
    (All-cons (ArrivesAt tree_rows (tree_stream 54343) over_tree) 1 []
    (record { sum = lit≤ tt; deadline = lit≤ tt })
    (All-nil (ArrivesAt tree_rows (tree_stream 54343) over_tree))))

late_for_three : IsLateAt tree_rows (tree_stream 40507) over_tree (0 ∷ 2 ∷ 3 ∷ []) (1 ∷ [])
late_for_three = late_at tree_rows (tree_stream 40507) over_tree 0 (2 ∷ 3 ∷ []) (1 ∷ []) (lit< tt)
    (λ there. let late : 40508000 ≤ 40507000 = there.deadline in absurd (omega arith))
    (All-cons (λ listener. ¬ ArrivesAt tree_rows (tree_stream 40507) over_tree listener) 2 (3 ∷ [])
    (λ there. let late : 54344000 ≤ 40507000 = there.deadline in absurd (omega arith))
    (All-cons (λ listener. ¬ ArrivesAt tree_rows (tree_stream 40507) over_tree listener) 3 []
    (λ there. let late : 54344000 ≤ 40507000 = there.deadline in absurd (omega arith))
    (All-nil (λ listener. ¬ ArrivesAt tree_rows (tree_stream 40507) over_tree listener))))
    (All-cons (ArrivesAt tree_rows (tree_stream 40507) over_tree) 1 []
    (record { sum = lit≤ tt; deadline = lit≤ tt })
    (All-nil (ArrivesAt tree_rows (tree_stream 40507) over_tree)))

short_for_first : IsLateAt (short_tree_rows 4) (tree_stream 54344) over_tree (0 ∷ []) (1 ∷ 2 ∷ 3 ∷ [])
short_for_first = late_at (short_tree_rows 4) (tree_stream 54344) over_tree 0 [] (1 ∷ 2 ∷ 3 ∷ []) (lit< tt)
    (λ there. let late : 40508000 ≤ 40507999 = there.sum in absurd (omega arith))
    (All-nil (λ listener. ¬ ArrivesAt (short_tree_rows 4) (tree_stream 54344) over_tree listener))
    (All-cons (ArrivesAt (short_tree_rows 4) (tree_stream 54344) over_tree) 1 (2 ∷ 3 ∷ [])
    (record { sum = lit≤ tt; deadline = lit≤ tt })
    (All-cons (ArrivesAt (short_tree_rows 4) (tree_stream 54344) over_tree) 2 (3 ∷ [])
    (record { sum = lit≤ tt; deadline = lit≤ tt })
    (All-cons (ArrivesAt (short_tree_rows 4) (tree_stream 54344) over_tree) 3 []
    (record { sum = lit≤ tt; deadline = lit≤ tt })
    (All-nil (ArrivesAt (short_tree_rows 4) (tree_stream 54344) over_tree)))))

short_for_second : IsLateAt (short_tree_rows 6) (tree_stream 54344) over_tree (1 ∷ []) (0 ∷ 2 ∷ 3 ∷ [])
short_for_second = late_at (short_tree_rows 6) (tree_stream 54344) over_tree 1 [] (0 ∷ 2 ∷ 3 ∷ []) (lit< tt)
    (λ there. let late : 26672000 ≤ 26671999 = there.sum in absurd (omega arith))
    (All-nil (λ listener. ¬ ArrivesAt (short_tree_rows 6) (tree_stream 54344) over_tree listener))
    (All-cons (ArrivesAt (short_tree_rows 6) (tree_stream 54344) over_tree) 0 (2 ∷ 3 ∷ [])
    (record { sum = lit≤ tt; deadline = lit≤ tt })
    (All-cons (ArrivesAt (short_tree_rows 6) (tree_stream 54344) over_tree) 2 (3 ∷ [])
    (record { sum = lit≤ tt; deadline = lit≤ tt })
    (All-cons (ArrivesAt (short_tree_rows 6) (tree_stream 54344) over_tree) 3 []
    (record { sum = lit≤ tt; deadline = lit≤ tt })
    (All-nil (ArrivesAt (short_tree_rows 6) (tree_stream 54344) over_tree)))))

short_for_third : IsLateAt (short_tree_rows 10) (tree_stream 54344) over_tree (2 ∷ []) (0 ∷ 1 ∷ 3 ∷ [])
short_for_third = late_at (short_tree_rows 10) (tree_stream 54344) over_tree 2 [] (0 ∷ 1 ∷ 3 ∷ []) (lit< tt)
    (λ there. let late : 54344000 ≤ 54343999 = there.sum in absurd (omega arith))
    (All-nil (λ listener. ¬ ArrivesAt (short_tree_rows 10) (tree_stream 54344) over_tree listener))
    (All-cons (ArrivesAt (short_tree_rows 10) (tree_stream 54344) over_tree) 0 (1 ∷ 3 ∷ [])
    (record { sum = lit≤ tt; deadline = lit≤ tt })
    (All-cons (ArrivesAt (short_tree_rows 10) (tree_stream 54344) over_tree) 1 (3 ∷ [])
    (record { sum = lit≤ tt; deadline = lit≤ tt })
    (All-cons (ArrivesAt (short_tree_rows 10) (tree_stream 54344) over_tree) 3 []
    (record { sum = lit≤ tt; deadline = lit≤ tt })
    (All-nil (ArrivesAt (short_tree_rows 10) (tree_stream 54344) over_tree)))))

short_for_fourth : IsLateAt (short_tree_rows 12) (tree_stream 54344) over_tree (3 ∷ []) (0 ∷ 1 ∷ 2 ∷ [])
short_for_fourth = late_at (short_tree_rows 12) (tree_stream 54344) over_tree 3 [] (0 ∷ 1 ∷ 2 ∷ []) (lit< tt)
    (λ there. let late : 54344000 ≤ 54343999 = there.sum in absurd (omega arith))
    (All-nil (λ listener. ¬ ArrivesAt (short_tree_rows 12) (tree_stream 54344) over_tree listener))
    (All-cons (ArrivesAt (short_tree_rows 12) (tree_stream 54344) over_tree) 0 (1 ∷ 2 ∷ [])
    (record { sum = lit≤ tt; deadline = lit≤ tt })
    (All-cons (ArrivesAt (short_tree_rows 12) (tree_stream 54344) over_tree) 1 (2 ∷ [])
    (record { sum = lit≤ tt; deadline = lit≤ tt })
    (All-cons (ArrivesAt (short_tree_rows 12) (tree_stream 54344) over_tree) 2 []
    (record { sum = lit≤ tt; deadline = lit≤ tt })
    (All-nil (ArrivesAt (short_tree_rows 12) (tree_stream 54344) over_tree)))))

short_over_one : IsLateAt short_split_rows (stream_over_split 26672) (travel_at one_split 0) (1 ∷ []) (0 ∷ [])
short_over_one = late_at short_split_rows (stream_over_split 26672) (travel_at one_split 0) 1 [] (0 ∷ []) (lit< tt)
    (λ there. let late : 26672000 ≤ 26671999 = there.sum in absurd (omega arith))
    (All-nil (λ listener. ¬ ArrivesAt short_split_rows (stream_over_split 26672) (travel_at one_split 0) listener))
    (All-cons (ArrivesAt short_split_rows (stream_over_split 26672) (travel_at one_split 0)) 0 []
    (record { sum = lit≤ tt; deadline = lit≤ tt })
    (All-nil (ArrivesAt short_split_rows (stream_over_split 26672) (travel_at one_split 0))))

pub deadlines_are_for_each : DeadlinesAreForEach
deadlines_are_for_each = record {
  all_in_time = in_time;
  met = met;
  late_for_two = late_for_two;
  late_for_three = late_for_three;
  short_for_first = short_for_first;
  short_for_second = short_for_second;
  short_for_third = short_for_third;
  short_for_fourth = short_for_fourth;
  over_one = record { sum = lit≤ tt; deadline = lit≤ tt };
  short_over_one = short_over_one;
}
