use Rattle.std.specs.Prelude.{List, [], ◌∷◌}
use Rattle.ats_num.specs.Pace.{drawn_wait}
use Rattle.ats_num.specs.Tie.{late_key, mixed_key}
use Rattle.ats_trace.specs.Journey.{Travel}
use Rattle.ats_trace.specs.Parts.{chosen, groups}
use Rattle.ats_trace.specs.Run.{IsIdeal, IsRunBy}
use Rattle.ats_examples.specs.Networks.{fork_of_classes, line_lowered, line_raised}
use Rattle.ats_examples.specs.Runs.{hop, sunk, first_goes_first, second_goes_first, held_by_group, group_by_class}
use Rattle.ats_examples.specs.LegalRuns.{frame_key, least_wait, greatest_wait}
use Rattle.ats_examples.specs.Deviations.{BreaksAlone}

-- Runs of streams whose class changes from one port to the next. Some have the frames and times of runs of streams that
-- keep their class.

-- two frames at once: that of the stream which is raised goes second at the station, and each is sent on as it comes
abbrev pub raised_second : List Travel
raised_second =
    sunk 0 0 1522 (hop 0 0 0 12336000 ∷ hop 13836000 13836000 13836000 26172000 ∷ []) 26672000
    ∷ sunk 0 1 1522 (hop 0 0 12336000 24672000 ∷ hop 26172000 26172000 26172000 38508000 ∷ []) 39008000
    ∷ []

-- and first
abbrev pub raised_first : List Travel
raised_first =
    sunk 0 0 1522 (hop 0 0 12336000 24672000 ∷ hop 26172000 26172000 26172000 38508000 ∷ []) 39008000
    ∷ sunk 0 1 1522 (hop 0 0 0 12336000 ∷ hop 13836000 13836000 13836000 26172000 ∷ []) 26672000
    ∷ []

-- a frame goes by its class at the port that sends it: at the bridge by class 5, behind one of class 6, whatever breaks
-- ties, so that frame 1 arrives at 26672000 and frame 0 at 39008000; and at the station by class 5, though the bridge
-- sends it by class 6
pub record ClassesOfPorts : Type 0 where
  pub by_frame : IsRunBy frame_key least_wait fork_of_classes second_goes_first
  pub by_sender : IsRunBy late_key greatest_wait fork_of_classes second_goes_first
  pub mixed : IsRunBy (mixed_key 1) (drawn_wait 1) fork_of_classes second_goes_first
  pub by_first_class : BreaksAlone chosen fork_of_classes first_goes_first
  pub raised : IsIdeal line_raised raised_second
  pub by_next_class : BreaksAlone chosen line_raised raised_first

-- and behind a port its group is that of its class at this port: of two streams of class 6 at the station one waits for
-- the other, though its class at the bridge is 5; and one of class 5 there waits for none of class 6, though it has
-- their class at the bridge
pub record ClassesOfGroups : Type 0 where
  pub lowered : IsIdeal line_lowered held_by_group
  pub by_next_class : BreaksAlone groups line_lowered group_by_class
  pub raised : IsIdeal line_raised group_by_class
  pub held_by_other : BreaksAlone groups line_raised held_by_group
