use Rattle.std.specs.Prelude.{ℕ, [], ◌∷◌, codes}
use Rattle.ats_network.specs.Network.{DeclaredNetwork, long_network}
use Rattle.ats_network_file.specs.Stations.{JoinStations}
use Rattle.ats_soundness_law.specs.Sound.{BeginAtStations}
use Rattle.ats_buffer_law.specs.Laws.{NodesKeepInTrueTime}
use Rattle.ats_buffer_law.specs.OwnFrames.{own_before, own_three}
use Rattle.ats_examples.specs.Networks.{flow, line, line_and_flow}
use Rattle.ats_examples.specs.OwnFrames.{own, own_stream}

-- What words say that laws have as premises, on closed things: of each one of which it is so, beside others of which it
-- is not. A premise that asked for more would promise the same of less.

-- of buffers in true time: where the first of three bridges babbles, nothing is promised of its own port towards s2,
-- nor of the next one. But of s1's port something is, which leaves no bridge; and of that of the third bridge, to which
-- frames come from the second
pub record BridgesAreAsked : Type 0 where
  pub first : NodesKeepInTrueTime own_three own_before 0 6
  pub not_own : ¬ NodesKeepInTrueTime own_three own_before 2 6
  pub not_next : ¬ NodesKeepInTrueTime own_three own_before 4 6
  pub last : NodesKeepInTrueTime own_three own_before 6 6

-- the line, with a stream from s1 to its bridge; and with a stream from s1 to s2 and a flow over this port, of which
-- port 0 leads to the bridge, and port 2 from it
abbrev pub ending_at_bridge : DeclaredNetwork
ending_at_bridge = long_network line.topology (own_stream (codes "h") (0 ∷ []) (7 ∷ []) ∷ []) []

abbrev pub with_flow_over : ℕ → DeclaredNetwork
with_flow_over port = long_network line.topology line.streams (flow (codes "f") (port ∷ []) ∷ [])

-- routes begin at stations also where some end at a bridge, and not where one of a stream or of a flow begins at one
pub record TalkersAreStations : Type 0 where
  pub joined : BeginAtStations line_and_flow
  pub ending : BeginAtStations ending_at_bridge
  pub flow_ending : BeginAtStations (with_flow_over 0)
  pub not_own : ¬ BeginAtStations own
  pub not_flow : ¬ BeginAtStations (with_flow_over 2)

-- they join stations neither there nor there, and do where all lead from s1 to s2
pub record BothEndsAreStations : Type 0 where
  pub joined : JoinStations line
  pub with_flow : JoinStations line_and_flow
  pub not_ending : ¬ JoinStations ending_at_bridge
  pub not_flow_ending : ¬ JoinStations (with_flow_over 0)
  pub not_own : ¬ JoinStations own
  pub not_flow : ¬ JoinStations (with_flow_over 2)

pub record PremisesAreShown : Type 0 where
  pub bridges : BridgesAreAsked
  pub talkers : TalkersAreStations
  pub ends : BothEndsAreStations
