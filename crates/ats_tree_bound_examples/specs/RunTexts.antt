use Rattle.std.specs.Prelude.{◌≡◌, List, [], ◌∷◌, ◌++◌, ℕ, codes, None, Some}
use Rattle.ats_network.specs.Network.{IsNetwork}
use Rattle.ats_trace.specs.Journey.{Travel, no_leg}
use Rattle.ats_replay.specs.Departures.{departures_text, journey_text}
use Rattle.ats_replay.specs.Report.{report_text}
use Rattle.ats_tree_examples.specs.Networks.{crossed, split, split_and_flow, tree, tree_and_flow, turned}
use Rattle.ats_tree_examples.specs.Runs.{behind_flow, copied, crossed_babbler, dropped, late_by, late_in_tree}
use Rattle.ats_tree_examples.specs.Runs.{long_split, long_with, one_split, too_long}
use Rattle.ats_examples.specs.Babbler.{at_bridge, too_late}
use Rattle.ats_tree_bound_examples.specs.OrderTexts.{backward, backward_report, one_backward, one_turned, sent_backward}
use Rattle.ats_tree_bound_examples.specs.OrderTexts.{sent_turned, turned_and_stream, turned_report, two_turned}

-- What is printed of runs of streams with several listeners.

-- one frame, which the bridge sends to both listeners
abbrev pub one_sent : List ℕ
one_sent =
    codes "frame 0 a 1522 0\n"
    ++ codes "hop s1>b1 0 eligible 0 start 0 end 12336000\n"
    ++ codes "hop b1>s2 13836000 eligible 13836000 start 13836000 end 26172000\n"
    ++ codes "sink 26672000\n"
    ++ codes "listener s3\n"
    ++ codes "hop b1>s3 13836000 eligible 13836000 start 13836000 end 26172000\n"
    ++ codes "sink 26672000\n"
    ++ codes "total frames 1 sunk 2 late 0 size 0\n"

-- one that is too long, and is discarded for both
abbrev pub too_long_for_both : List ℕ
too_long_for_both =
    codes "frame 0 a 1523 0\n"
    ++ codes "hop s1>b1 0 eligible 0 start 0 end 12344000\n"
    ++ codes "hop b1>s2 13844000 size\n"
    ++ codes "discard\n"
    ++ codes "listener s3\n"
    ++ codes "hop b1>s3 13844000 size\n"
    ++ codes "discard\n"
    ++ codes "total frames 1 sunk 0 late 0 size 2\n"

-- one over the tree that is too long, and is discarded at the first bridge, for all of its listeners: also for the last
-- two, to whose branches it never comes
abbrev pub long_in_tree : List Travel
long_in_tree = long_with (dropped (too_long 13844000 ∷ []) ∷ no_leg ∷ no_leg ∷ [])

abbrev pub too_long_for_four : List ℕ
too_long_for_four =
    codes "frame 0 a 1523 0\n"
    ++ codes "hop s1>b1 0 eligible 0 start 0 end 12344000\n"
    ++ codes "hop b1>b2 13844000 size\n"
    ++ codes "discard\n"
    ++ codes "listener s3\n"
    ++ codes "hop b1>s3 13844000 size\n"
    ++ codes "discard\n"
    ++ codes "listener s4\n"
    ++ codes "discard\n"
    ++ codes "listener s5\n"
    ++ codes "discard\n"
    ++ codes "total frames 1 sunk 0 late 0 size 4\n"

abbrev pub long_report : List ℕ
long_report =
    codes "stream a frames 1 sunk 0 late 0 size 1 worst 0 bound -\n"
    ++ codes "listener a s3 frames 1 sunk 0 late 0 size 1 worst 0 bound -\n"
    ++ codes "listener a s4 frames 1 sunk 0 late 0 size 1 worst 0 bound -\n"
    ++ codes "listener a s5 frames 1 sunk 0 late 0 size 1 worst 0 bound -\n"
    ++ codes "total frames 1 sunk 0 late 0 size 4\n"

-- one behind the flow's, whose copy is sent at once
abbrev pub sent_at_once : List ℕ
sent_at_once =
    codes "frame 0 f 1522 0\n"
    ++ codes "hop s3>b1 0 eligible 0 start 0 end 12336000\n"
    ++ codes "hop b1>s2 13836000 eligible 13836000 start 13836000 end 26172000\n"
    ++ codes "sink 26672000\n"
    ++ codes "frame 1 a 1522 1\n"
    ++ codes "hop s1>b1 1 eligible 1 start 1 end 12336001\n"
    ++ codes "hop b1>s2 13836001 eligible 13836001 start 26172000 end 38508000\n"
    ++ codes "sink 39008000\n"
    ++ codes "listener s3\n"
    ++ codes "hop b1>s3 13836001 eligible 13836001 start 13836001 end 26172001\n"
    ++ codes "sink 26672001\n"
    ++ codes "total frames 2 sunk 3 late 0 size 0\n"

-- the last frame of a babbler, which is late for both listeners, and counts for each
abbrev pub late_for_both : List ℕ
late_for_both =
    codes "frame 23 z 64 0\n"
    ++ codes "hop s3>b1 0 eligible 0 start 14784000 end 15456000\n"
    ++ codes "hop b1>s2 16956000 late 33372000\n"
    ++ codes "discard\n"
    ++ codes "listener s1\n"
    ++ codes "hop b1>s1 16956000 late 33372000\n"
    ++ codes "discard\n"

abbrev pub babbled_report : List ℕ
babbled_report =
    codes "stream a frames 1 sunk 1 late 0 size 0 worst 27104000 bound 11\n"
    ++ codes "stream z frames 23 sunk 22 late 1 size 0 worst 29792000 bound 22\n"
    ++ codes "listener z s1 frames 23 sunk 22 late 1 size 0 worst 27824000 bound 33\n"
    ++ codes "total frames 24 sunk 45 late 2 size 0\n"

-- a frame that is discarded behind one branching and in front of another: it arrives at the listener of the first, is
-- late for three others, and never comes to the branch of one of these
abbrev pub late_between : List ℕ
late_between =
    codes "frame 0 f 1522 0\n"
    ++ codes "hop s3>b1 0 eligible 0 start 0 end 12336000\n"
    ++ codes "hop b1>b2 13836000 eligible 13836000 start 13836000 end 26172000\n"
    ++ codes "hop b2>s2 27672000 eligible 27672000 start 27672000 end 40008000\n"
    ++ codes "sink 40508000\n"
    ++ codes "frame 1 a 1522 1\n"
    ++ codes "hop s1>b1 1 eligible 1 start 1 end 12336001\n"
    ++ codes "hop b1>b2 13836001 eligible 13836001 start 26172000 end 38508000\n"
    ++ codes "hop b2>s2 40008000 eligible 40008000 start 40008000 end 52344000\n"
    ++ codes "sink 52844000\n"
    ++ codes "listener s3\n"
    ++ codes "hop b1>s3 13836001 eligible 13836001 start 13836001 end 26172001\n"
    ++ codes "sink 26672001\n"
    ++ codes "listener s4\n"
    ++ codes "hop b2>b3 40008000 eligible 40008000 start 40008000 end 52344000\n"
    ++ codes "hop b3>s4 53844000 eligible 53844000 start 53844000 end 66180000\n"
    ++ codes "sink 66680000\n"
    ++ codes "listener s5\n"
    ++ codes "hop b3>s5 53844000 eligible 53844000 start 53844000 end 66180000\n"
    ++ codes "sink 66680000\n"
    ++ codes "frame 2 a 1522 123360001\n"
    ++ codes "hop s1>b1 123360001 eligible 123360001 start 123360001 end 135696001\n"
    ++ codes "hop b1>b2 137196001 eligible 137196001 start 137196001 end 149532001\n"
    ++ codes "hop b2>s2 151032001 late 163368000\n"
    ++ codes "discard\n"
    ++ codes "listener s3\n"
    ++ codes "hop b1>s3 137196001 eligible 137196001 start 137196001 end 149532001\n"
    ++ codes "sink 150032001\n"
    ++ codes "listener s4\n"
    ++ codes "hop b2>b3 151032001 late 163368000\n"
    ++ codes "discard\n"
    ++ codes "listener s5\n"
    ++ codes "discard\n"
    ++ codes "total frames 3 sunk 6 late 3 size 0\n"

abbrev pub late_report : List ℕ
late_report =
    codes "stream a frames 2 sunk 1 late 1 size 0 worst 52843999 bound 101\n"
    ++ codes "listener a s3 frames 2 sunk 2 late 0 size 0 worst 26672000 bound 102\n"
    ++ codes "listener a s4 frames 2 sunk 1 late 1 size 0 worst 66679999 bound 103\n"
    ++ codes "listener a s5 frames 2 sunk 1 late 1 size 0 worst 66679999 bound 104\n"
    ++ codes "flow f frames 1 sunk 1 late 0 size 0 worst 40508000 bound -\n"
    ++ codes "total frames 3 sunk 6 late 3 size 0\n"

-- behind the lines of the trunk stand those of each branch, with its own ports and the station to which it leads; a
-- frame counts once for each of its listeners, by the last verdict on the way there; and each listener has its own
-- counts, its own longest time and the sum at its own place. The lines of listeners go by legs, whatever the order of
-- names, nodes and ports, directly behind those of their frame's trunk or their stream
pub record RunsAreWritten : Type 0 where
  pub sent : departures_text split one_split ≡ one_sent
  pub too_long : departures_text split long_split ≡ too_long_for_both
  pub too_long_early : departures_text tree long_in_tree ≡ too_long_for_four
  pub reported_too_long : report_text tree long_in_tree None ≡ long_report
  pub at_once : departures_text split_and_flow behind_flow ≡ sent_at_once
  pub late : journey_text crossed (23, copied too_late (dropped (late_by (at_bridge 22) 33372000 ∷ []) ∷ []))
      ≡ late_for_both
  pub babbled : report_text crossed crossed_babbler (Some (11 ∷ 22 ∷ 33 ∷ [])) ≡ babbled_report
  pub between : departures_text tree_and_flow late_in_tree ≡ late_between
  pub reported : report_text tree_and_flow late_in_tree (Some (101 ∷ 102 ∷ 103 ∷ 104 ∷ [])) ≡ late_report
  pub rules_turned : IsNetwork turned_and_stream
  pub turned_sent : departures_text turned one_turned ≡ sent_turned
  pub turned_reported : report_text turned_and_stream two_turned (Some (11 ∷ 22 ∷ 33 ∷ 44 ∷ 55 ∷ [])) ≡ turned_report
  pub rules_backward : IsNetwork backward
  pub backward_sent : departures_text backward one_backward ≡ sent_backward
  pub backward_reported : report_text backward one_backward (Some (11 ∷ 22 ∷ 33 ∷ 44 ∷ [])) ≡ backward_report
