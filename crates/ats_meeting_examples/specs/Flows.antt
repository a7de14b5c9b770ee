use Rattle.std.specs.Prelude.{ℕ, ◌+◌, List, [], ◌∷◌}
use Rattle.ats_num.specs.Tie.{late_key}
use Rattle.ats_trace.specs.Journey.{Travel}
use Rattle.ats_trace.specs.Parts.{chosen}
use Rattle.ats_trace.specs.Run.{IsRunBy}
use Rattle.ats_examples.specs.BrokenRuns.{small}
use Rattle.ats_examples.specs.Deviations.{BreaksAlone}
use Rattle.ats_examples.specs.LegalRuns.{frame_key, greatest_wait, least_wait}
use Rattle.ats_examples.specs.Runs.{hop, sunk}
use Rattle.ats_meeting_examples.specs.Networks.{fork_of_flows, two_flows}

-- Frames of two flows at one port, which goes by their eligibility times and then by the key, as it does within a flow.

-- a frame of a flow, behind it a second one of this flow, and a picosecond later one of that flow. The station sends
-- them in turn, or the last before the second
abbrev pub in_turn : ℕ → ℕ → List Travel
in_turn first other = small first 0 0 ∷ small first 1 672000 ∷ small other 2 1344000 ∷ []

abbrev pub last_goes_second : ℕ → ℕ → List Travel
last_goes_second first other = small first 0 0 ∷ small first 1 1344000 ∷ small other 2 672000 ∷ []

-- frames of two flows that are released together, of which the later one goes first
abbrev pub turned : ℕ → ℕ → List Travel
turned first second = small first 0 672000 ∷ small second 0 0 ∷ []

-- whichever flow has the lesser number, the frame that is eligible first goes first, and of two that tie the one with
-- the lesser key. Refuses a port that takes flow by flow, or goes by the key alone, or breaks ties of two flows by
-- frame numbers
pub record StationsMixFlows : Type 0 where
  pub greater_last : IsRunBy late_key greatest_wait two_flows (in_turn 1 2)
  pub greater_first : IsRunBy late_key greatest_wait two_flows (in_turn 2 1)
  pub lesser_overtakes : BreaksAlone chosen two_flows (last_goes_second 2 1)
  pub greater_overtakes : BreaksAlone chosen two_flows (last_goes_second 1 2)
  pub by_sender : IsRunBy late_key greatest_wait two_flows (turned 1 2)
  pub not_by_frame : ¬ IsRunBy frame_key least_wait two_flows (turned 1 2)
  pub not_by_lesser : ¬ IsRunBy late_key greatest_wait two_flows (turned 2 1)

-- while the bridge sends a long frame of the first flow, a small one of each comes to it through a port of its own:
-- that of the first at 14508000, and that of the second, which is released at this time, 2172000 later. It sends them
-- from these times on
abbrev pub two_come : ℕ → ℕ → ℕ → List Travel
two_come at first second =
    sunk 0 0 1522 (hop 0 0 0 12336000 ∷ hop 13836000 13836000 13836000 26172000 ∷ []) 26672000
    ∷ sunk 0 0 64
    (hop 0 0 12336000 13008000 ∷ hop 14508000 14508000 first (first + 672000) ∷ []) (first + 1172000)
    ∷ sunk at 1 64
    (hop at at at (at + 672000) ∷ hop (at + 2172000) (at + 2172000) second (second + 672000) ∷ [])
    (second + 1172000)
    ∷ []

-- and so it is at a bridge, also of frames that came through different ports
pub record BridgesMixFlows : Type 0 where
  pub first_before : IsRunBy late_key greatest_wait fork_of_flows (two_come 12336001 26172000 26844000)
  pub second_before : IsRunBy frame_key least_wait fork_of_flows (two_come 12335999 26844000 26172000)
  pub second_overtakes : BreaksAlone chosen fork_of_flows (two_come 12336001 26844000 26172000)
  pub first_overtakes : BreaksAlone chosen fork_of_flows (two_come 12335999 26172000 26844000)
  pub by_sender : IsRunBy late_key greatest_wait fork_of_flows (two_come 12336000 26844000 26172000)
  pub not_by_frame : ¬ IsRunBy frame_key least_wait fork_of_flows (two_come 12336000 26844000 26172000)

pub record FlowsSharePorts : Type 0 where
  pub at_station : StationsMixFlows
  pub at_bridge : BridgesMixFlows
