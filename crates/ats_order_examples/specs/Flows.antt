use Rattle.std.specs.Prelude.{ℕ, List, [], ◌∷◌, codes}
use Rattle.ats_topology.specs.Topology.{topology_of}
use Rattle.ats_network.specs.Network.{DeclaredNetwork, declared_network}
use Rattle.ats_trace.specs.Journey.{Travel}
use Rattle.ats_trace.specs.Links.{KeepsTimes}
use Rattle.ats_trace.specs.Parts.{chosen, links}
use Rattle.ats_trace.specs.Projections.{Crossing}
use Rattle.ats_trace.specs.Run.{IsIdeal, IsRunBy}
use Rattle.ats_examples.specs.BrokenRuns.{small}
use Rattle.ats_examples.specs.Crossings.{crossing}
use Rattle.ats_examples.specs.Deviations.{BreaksAlone}
use Rattle.ats_examples.specs.LegalRuns.{descending_key, frame_key, least_wait}
use Rattle.ats_examples.specs.Networks.{flow, line_and_flow, line_links, ranged_nodes}
use Rattle.ats_examples.specs.Runs.{hop, sunk}

-- Frames of flows keep the rules that frames of streams keep.

-- the station sends the third of a flow's frames before the second, though both are eligible
abbrev pub later_of_flow_first : List Travel
later_of_flow_first = small 1 0 0 ∷ small 1 1 1344000 ∷ small 1 2 672000 ∷ []

-- two frames of a flow that are released together, of which the station sends this one at the time at which it starts,
-- and that one so
abbrev pub together : ℕ → ℕ → List Travel
together first second = small 1 0 first ∷ small 1 0 second ∷ []

-- the line over a bridge that takes 200 to 1000 ns, with a flow alone, which has number 0
abbrev pub ranged_flow : DeclaredNetwork
ranged_flow = declared_network (topology_of (ranged_nodes 12464) line_links) [] (flow (codes "f") (0 ∷ 2 ∷ []) ∷ [])

-- two frames of it at once, of which the first arrives as late as it may, and the second at this time; the bridge sends
-- it behind the first
abbrev pub second_of_flow : ℕ → List Travel
second_of_flow at =
    sunk 0 0 64 (hop 0 0 0 672000 ∷ hop 2172000 2172000 2172000 2844000 ∷ []) 3344000
    ∷ sunk 0 0 64 (hop 0 0 672000 1344000 ∷ hop at at 2844000 3516000 ∷ []) 4016000
    ∷ []

-- the second arrives 1 ps later than it may, and is sent on at once
abbrev pub late_of_flow : List Travel
late_of_flow =
    sunk 0 0 64 (hop 0 0 0 672000 ∷ hop 2172000 2172000 2172000 2844000 ∷ []) 3344000
    ∷ sunk 0 0 64 (hop 0 0 672000 1344000 ∷ hop 2844001 2844001 2844001 3516001 ∷ []) 4016001
    ∷ []

-- the frame that is sent last arrives 1 ps before the other, and is sent on before it
abbrev pub overtaking : List Travel
overtaking =
    sunk 0 0 64 (hop 0 0 0 672000 ∷ hop 2172000 2172000 2843999 3515999 ∷ []) 4015999
    ∷ sunk 0 0 64 (hop 0 0 672000 1344000 ∷ hop 2171999 2171999 2171999 2843999 ∷ []) 3343999
    ∷ []

-- one frame, which arrives as early as it may, at 1372000, or later
abbrev pub arriving : ℕ → ℕ → ℕ → List Travel
arriving at sent sinks = sunk 0 0 64 (hop 0 0 0 672000 ∷ hop at at at sent ∷ []) sinks ∷ []

-- two frames of a flow one behind the other over a link that takes 700 to 1500 ps; the first arrives at 2172, and the
-- second at this time
abbrev pub pair_of_flow : ℕ → List Crossing
pair_of_flow arrival = crossing 0 0 0 2172 ∷ crossing 1 0 672 arrival ∷ []

-- a port sends a flow's frames in the order in which they became eligible, and by an order those of a tie by its key
pub record FlowsAreSentInOrder : Type 0 where
  pub chosen : BreaksAlone chosen line_and_flow later_of_flow_first
  pub tie : IsRunBy frame_key least_wait line_and_flow (together 0 672000)
  pub not_turned : ¬ IsRunBy frame_key least_wait line_and_flow (together 672000 0)
  pub turned : IsRunBy descending_key least_wait line_and_flow (together 672000 0)

-- they arrive in the order in which they were sent, each in its time
pub record FlowsArriveInOrder : Type 0 where
  pub behind : IsIdeal ranged_flow (second_of_flow 2172001)
  pub last : IsIdeal ranged_flow (second_of_flow 2844000)
  pub together : BreaksAlone links ranged_flow (second_of_flow 2172000)
  pub overtaking : BreaksAlone links ranged_flow overtaking
  pub late : BreaksAlone links ranged_flow late_of_flow
  pub pair_behind : KeepsTimes 700 1500 (pair_of_flow 2173)
  pub pair_last : KeepsTimes 700 1500 (pair_of_flow 2844)
  pub pair_together : ¬ KeepsTimes 700 1500 (pair_of_flow 2172)
  pub pair_overtaken : ¬ KeepsTimes 700 1500 (pair_of_flow 2171)
  pub pair_late : ¬ KeepsTimes 700 1500 (pair_of_flow 2845)

-- and by an order at the time of its pace
pub record FlowsArriveByPace : Type 0 where
  pub least : IsRunBy frame_key least_wait ranged_flow (arriving 1372000 2044000 2544000)
  pub not_least : ¬ IsRunBy frame_key least_wait ranged_flow (arriving 1372001 2044001 2544001)
  pub of_other_pace : IsIdeal ranged_flow (arriving 1372001 2044001 2544001)

pub record FlowsAreKept : Type 0 where
  pub sent : FlowsAreSentInOrder
  pub arrive : FlowsArriveInOrder
  pub paced : FlowsArriveByPace
