use Rattle.std.specs.Prelude.{[], ◌∷◌}
use Rattle.ats_trace.specs.Journey.{no_leg}
use Rattle.ats_trace.specs.Parts.{copies, links, prompt, groups}
use Rattle.ats_examples.specs.Deviations.{BreaksAlone}
use Rattle.ats_examples.specs.Runs.{hop}
use Rattle.ats_tree_examples.specs.Networks.{from_bridge, split, split_and_flow, split_by_class, split_ranged}
use Rattle.ats_tree_examples.specs.Networks.{tree_and_flow}
use Rattle.ats_tree_examples.specs.Runs.{copy, dropped, own_with, too_long, late_by, one_with, behind_flow_with}
use Rattle.ats_tree_examples.specs.Runs.{counted_with, held_with, past_its_group, coming, late_in_tree_with}
use Rattle.ats_tree_examples.specs.Copies.{survivor}

-- Runs with a copy that is told wrongly, each of which breaks one part alone.

-- there is no copy, or there are two; nothing is told of it, or it is not told what became of it; or a bridge sends its
-- own frame by the trunk's port alone
pub record EachHasOneCopy : Type 0 where
  pub missing : BreaksAlone copies split (one_with [])
  pub twice : BreaksAlone copies split
      (one_with (copy (hop 13836000 13836000 13836000 26172000 ∷ []) 26672000
      ∷ copy (hop 13836000 13836000 13836000 26172000 ∷ []) 26672000 ∷ []))
  pub not_told : BreaksAlone copies split (one_with (no_leg ∷ []))
  pub lost : BreaksAlone copies split (one_with (dropped (hop 13836000 13836000 13836000 26172000 ∷ []) ∷ []))
  pub by_one_port : BreaksAlone copies from_bridge (own_with (dropped [] ∷ dropped [] ∷ []))

-- the copy is eligible 1 ps after the frame; it came 1 ps after the frame, also where a bridge takes a range of time;
-- or it is eligible when it comes, where the frame waits for its group
pub record CopiesHaveTheFramesTimes : Type 0 where
  pub later : BreaksAlone copies split (one_with (copy (hop 13836000 13836001 13836001 26172001 ∷ []) 26672001 ∷ []))
  pub came_later : BreaksAlone copies split
      (one_with (copy (hop 13836001 13836000 13836000 26172000 ∷ []) 26672000 ∷ []))
  pub in_a_range : BreaksAlone copies split_ranged (coming 13036007 13036008)
  pub at_its_arrival : BreaksAlone copies split_by_class (held_with 39180000 26844000 26844000 39180000)

-- the frame is discarded, and the copy goes on; the copy alone is discarded; or something is told of a copy behind a
-- port at which the frame was discarded, be it a record or an arrival alone
pub record DiscardsAreForAll : Type 0 where
  pub goes_on : BreaksAlone copies split survivor
  pub alone : BreaksAlone copies split (one_with (dropped (too_long 13836000 ∷ []) ∷ []))
  pub behind_a_discard : BreaksAlone copies tree_and_flow
      (late_in_tree_with (dropped (late_by 151032001 163368000 ∷ [])))
  pub arrives_behind_a_discard : BreaksAlone copies tree_and_flow (late_in_tree_with (copy [] 66680000))

-- ports, links and groups treat a copy as any frame: its port may not wait until the frame's port is free, and it may
-- not arrive 1 ps late; the frame counts once, so that one behind it is not held back until the bucket would have room
-- for it, had the frame counted for each port; and its group is that of its class at the port before, whichever class
-- its copies have, so that it waits for a frame of the group that leaves the bridge in another class
pub record CopiesKeepTheRules : Type 0 where
  pub waits_for_the_frame : BreaksAlone prompt split_and_flow (behind_flow_with 26172000 38508000 39008000)
  pub arrives_late : BreaksAlone links split
      (one_with (copy (hop 13836000 13836000 13836000 26172000 ∷ []) 26672001 ∷ []))
  pub counts_twice : BreaksAlone groups split (counted_with 72220000 72220000)
  pub goes_past : BreaksAlone groups split_by_class past_its_group
