use Rattle.ats_settings.specs.Settings.{LeavesBridge}
use Rattle.ats_tree_examples.specs.Networks.{from_bridge, split_and_flow, tree}

-- Where the ports of a sender leave a bridge to which its frames come.

-- the stream of the tree has ports of the trunk at places 0 to 2, one of its first branch at 3, two of the second at 4
-- and 5, and one of the third at 6: all but the talker's, that of place 0, leave such a bridge
pub record LeavesOnEachLeg : Type 0 where
  pub on_trunk : LeavesBridge tree 0 1
  pub end_of_trunk : LeavesBridge tree 0 2
  pub first_of_branch : LeavesBridge tree 0 3
  pub first_of_second : LeavesBridge tree 0 4
  pub further_on_second : LeavesBridge tree 0 5
  pub branch_of_second : LeavesBridge tree 0 6
  pub talker : ¬ LeavesBridge tree 0 0
  pub past_last : ¬ LeavesBridge tree 0 7
  pub no_sender : ¬ LeavesBridge tree 1 1

-- a stream from a bridge leaves it by places 0, 1 and 3, with two branches that begin there: only the port of place 2
-- leaves a bridge to which its frames come
pub record NoneComeToTalkers : Type 0 where
  pub on_branch : LeavesBridge from_bridge 0 2
  pub trunk : ¬ LeavesBridge from_bridge 0 0
  pub first_branch : ¬ LeavesBridge from_bridge 0 1
  pub second_branch : ¬ LeavesBridge from_bridge 0 3

-- so it is of a flow, whose number is behind those of the streams
pub record FlowsLeave : Type 0 where
  pub on_path : LeavesBridge split_and_flow 1 1
  pub talker : ¬ LeavesBridge split_and_flow 1 0

pub record LeavingIsMeant : Type 0 where
  pub legs : LeavesOnEachLeg
  pub talkers : NoneComeToTalkers
  pub flows : FlowsLeave
