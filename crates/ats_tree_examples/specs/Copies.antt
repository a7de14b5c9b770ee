use Rattle.std.specs.Prelude.{◌≡◌, ℕ, ◌<◌, List, [], ◌∷◌, length, map, Some, None}
use Rattle.std.specs.Option.{option_map}
use Rattle.ats_num.specs.Pace.{drawn_wait}
use Rattle.ats_num.specs.Tie.{late_key, mixed_key}
use Rattle.ats_network.specs.Senders.{sender_at}
use Rattle.ats_port_rule.specs.PortRule.{KeepsTie}
use Rattle.ats_group.specs.declared.verdict.Verdict.TheVariants.{Eligible, Late}
use Rattle.ats_trace.specs.Journey.{Travel}
use Rattle.ats_trace.specs.OneVerdict.{HasOneVerdict, OneVerdictIn, judged_as, record_of}
use Rattle.ats_trace.specs.Projections.{sent_by}
use Rattle.ats_trace.specs.Run.{IsIdeal, IsRunBy}
use Rattle.ats_trace.specs.Stored.{travel_at}
use Rattle.ats_trace.specs.Ways.{listener_count, route_to, way_to}
use Rattle.ats_examples.specs.LegalRuns.{frame_key, least_wait, greatest_wait}
use Rattle.ats_examples.specs.Runs.{hop}
use Rattle.ats_tree_examples.specs.Networks.{split, split_and_flow, split_and_stream, split_by_class, split_ranged}
use Rattle.ats_tree_examples.specs.Networks.{split_and_slower, behind_bridge, branch_ranged, crossed, from_bridge, tree}
use Rattle.ats_tree_examples.specs.Networks.{tree_and_flow}
use Rattle.ats_tree_examples.specs.Trees.{tree_routes}
use Rattle.ats_tree_examples.specs.Runs.{copy, dropped, late_by, one_split, one_with, long_with, long_split}
use Rattle.ats_tree_examples.specs.Runs.{behind_flow}
use Rattle.ats_tree_examples.specs.Runs.{within_burst, held_by_group, tied_first, tied_last, coming, crossed_babbler}
use Rattle.ats_tree_examples.specs.Runs.{copies_in_order, copies_out_of_order, copy_coming, over_tree, late_in_tree}
use Rattle.ats_tree_examples.specs.Runs.{copies_behind, own_copies}

-- What the definitions of runs say of frames and their copies.

-- these runs are legal: a frame and its copy over one bridge, which discards both where the frame is too long; a copy
-- whose port is free goes on where the frame waits; a frame counts once against its burst; a copy waits for those of
-- the frame's group behind the first port; a babbler's last frame is discarded for both listeners; a frame and three
-- copies over three bridges; a frame of a bridge, which sends a copy by each of its ports that the tree has, and one
-- whose copy is copied behind it; and a frame that is discarded behind one branch and before another
pub record CopiesAreLegal : Type 0 where
  pub one : IsIdeal split one_split
  pub too_long : IsIdeal split long_split
  pub one_busy : IsIdeal split_and_flow behind_flow
  pub counted_once : IsIdeal split within_burst
  pub held : IsIdeal split_by_class held_by_group
  pub babbled : IsIdeal crossed crossed_babbler
  pub to_four : IsIdeal tree (over_tree ∷ [])
  pub own : IsIdeal from_bridge own_copies
  pub own_behind : IsIdeal behind_bridge copies_behind
  pub late_behind_one : IsIdeal tree_and_flow late_in_tree

-- a copy ties with other frames at its port by the key of its frame, and comes to the bridge by the frame's pace
pub record CopiesGoByOrder : Type 0 where
  pub by_frame : IsRunBy frame_key least_wait split_and_stream tied_first
  pub by_sender : IsRunBy late_key greatest_wait split_and_stream tied_first
  pub mixed : IsRunBy (mixed_key 1) (drawn_wait 1) split_and_stream tied_first
  pub turned : IsRunBy (mixed_key 0) (drawn_wait 0) split_and_stream tied_last
  pub not_by_frame : ¬ IsRunBy frame_key least_wait split_and_stream tied_last
  pub paced : IsRunBy (mixed_key 7) (drawn_wait 7) split_ranged (coming 13036007 13036007)

-- at a port that no trunk has two copies of one stream that tie go by the key of their frames as well, and a copy comes
-- to the bridge behind it by its frame's pace. A legal run may send them in the other order than the trunk's port sends
-- their frames, and then no one key breaks the ties of both ports; and its copies may come by another pace
pub record BranchesGoByOrder : Type 0 where
  pub in_order : IsRunBy frame_key least_wait split_and_slower copies_in_order
  pub out_of_order : IsIdeal split_and_slower copies_out_of_order
  pub not_by_frame : ¬ IsRunBy frame_key least_wait split_and_slower copies_out_of_order
  pub by_no_one_key : (key : ℕ → ℕ → ℕ) → ¬ ((port : ℕ) → port < length split_and_slower.topology.ports
      → KeepsTie key (sent_by split_and_slower copies_out_of_order port))
  pub least : IsRunBy frame_key least_wait branch_ranged (copy_coming 26872000)
  pub greatest : IsRunBy late_key greatest_wait branch_ranged (copy_coming 27672000)
  pub not_greatest : ¬ IsRunBy late_key greatest_wait branch_ranged (copy_coming 26872000)

-- the third frame of the run in which one is late
abbrev pub late_one : Travel
late_one = travel_at late_in_tree 2

-- the ways of a frame to its four listeners: its records at the ports of each route, and the ending of its leg. And of
-- the frame that is late: the last listener's leg has no record, and the way there ends with the one where it is late
pub record WaysAreWorked : Type 0 where
  pub four : listener_count (sender_at tree 0) ≡ 4
  pub routes : map (route_to (sender_at tree 0)) (0 ∷ 1 ∷ 2 ∷ 3 ∷ []) ≡ tree_routes
  pub first : way_to (sender_at tree 0) over_tree 0 ≡ copy
      (hop 0 0 0 12336000 ∷ hop 13836000 13836000 13836000 26172000 ∷ hop 27672000 27672000 27672000 40008000 ∷ [])
      40508000
  pub second : way_to (sender_at tree 0) over_tree 1 ≡ copy
      (hop 0 0 0 12336000 ∷ hop 13836000 13836000 13836000 26172000 ∷ []) 26672000
  pub third : way_to (sender_at tree 0) over_tree 2 ≡ copy
      (
      hop 0 0 0 12336000 ∷ hop 13836000 13836000 13836000 26172000
      ∷ hop 27672000 27672000 27672000 40008000 ∷ hop 41508000 41508000 41508000 53844000 ∷ []
      )
      54344000
  pub fourth : way_to (sender_at tree 0) over_tree 3 ≡ way_to (sender_at tree 0) over_tree 2
  pub past_the_late : way_to (sender_at tree_and_flow 0) late_one 1 ≡ copy
      (hop 123360001 123360001 123360001 135696001 ∷ hop 137196001 137196001 137196001 149532001 ∷ []) 150032001
  pub to_the_last : way_to (sender_at tree_and_flow 0) late_one 3 ≡ dropped
      (hop 123360001 123360001 123360001 135696001 ∷ hop 137196001 137196001 137196001 149532001
      ∷ late_by 151032001 163368000 ∷ [])

-- the copy that survives where its frame is discarded for its size
abbrev pub survivor : List Travel
survivor = long_with (copy (hop 13844000 13844000 13844000 26188000 ∷ []) 26688000 ∷ [])

-- by the law each frame of a legal run has one verdict at the ports that leave one bridge, and is sent once at each
-- port; so at b1 of the tree, and at b2 for the late frame, which has none at b3. The copy that survives has its own,
-- and so has one that is eligible, or comes, 1 ps after its frame: not only the kind of a verdict counts
pub record VerdictsAreOne : Type 0 where
  pub in_tree : OneVerdictIn tree (over_tree ∷ [])
  pub in_late : OneVerdictIn tree_and_flow late_in_tree
  pub at_first : map (λ port. option_map judged_as (record_of tree over_tree port)) (2 ∷ 6 ∷ [])
      ≡ Some (record { 0 = 13836000 }, Eligible (record { 0 = 13836000 }))
      ∷ Some (record { 0 = 13836000 }, Eligible (record { 0 = 13836000 })) ∷ []
  pub at_second : map (λ port. option_map judged_as (record_of tree_and_flow late_one port)) (4 ∷ 8 ∷ [])
      ≡ Some (record { 0 = 151032001 }, Late (record { 0 = 163368000 }))
      ∷ Some (record { 0 = 151032001 }, Late (record { 0 = 163368000 })) ∷ []
  pub at_third : map (λ port. option_map judged_as (record_of tree_and_flow late_one port)) (10 ∷ 12 ∷ [])
      ≡ None ∷ None ∷ []
  pub of_its_own : ¬ HasOneVerdict split (travel_at survivor 0)
  pub at_another_time : ¬ HasOneVerdict split
      (travel_at (one_with (copy (hop 13836000 13836001 13836001 26172001 ∷ []) 26672001 ∷ [])) 0)
  pub come_later : ¬ HasOneVerdict split
      (travel_at (one_with (copy (hop 13836001 13836000 13836000 26172000 ∷ []) 26672000 ∷ [])) 0)
