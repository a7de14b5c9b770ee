use Rattle.std.specs.Prelude.{◌≡◌, ℕ, [], ◌∷◌}
use Rattle.ats_network.specs.Senders.{sender_at}
use Rattle.ats_trace.specs.declared.journey.Release.{Release}
use Rattle.ats_witness.specs.Burst.{IsBurstFor, greatest_travel, time_over, travel_to, whole_frames}
use Rattle.ats_witness_law.specs.Worked.{release}
use Rattle.ats_examples.specs.Networks.{line_lowered, line_of_classes}
use Rattle.ats_text_examples.specs.Worked.{way}
use Rattle.ats_tree_examples.specs.Networks.{tree, turned}
use Rattle.ats_witness_examples.specs.Networks.{joined, joined_trees, line_of_three, sender_with}

-- how many frames of 12336 bits bursts of so many bits hold whole: one bit less than one or two of them, just so many,
-- and 39, 40, 41 and 82 of them
pub record FramesAreWorked : Type 0 where
  pub less_than_one : whole_frames (sender_with 12335) ≡ 0
  pub one : whole_frames (sender_with 12336) ≡ 1
  pub less_than_two : whole_frames (sender_with 24671) ≡ 1
  pub two : whole_frames (sender_with 24672) ≡ 2
  pub below_most : whole_frames (sender_with 481104) ≡ 39
  pub most : whole_frames (sender_with 493440) ≡ 40
  pub above_most : whole_frames (sender_with 505776) ≡ 40
  pub twice : whole_frames (sender_with 1011552) ≡ 40

-- over the tree, where a frame takes 13836000 ps over each port to a bridge: to the ports of the trunk, of a branch
-- from the first bridge, of one from the second, and of one that begins on that branch. Of two streams that meet on
-- branches each comes by its own way
pub record TravelsTurnOff : Type 0 where
  pub to_trunk : travel_to tree 4 (sender_at tree 0) ≡ 27672000
  pub to_first_branch : travel_to tree 6 (sender_at tree 0) ≡ 13836000
  pub to_second_branch : travel_to tree 8 (sender_at tree 0) ≡ 27672000
  pub along_it : travel_to tree 10 (sender_at tree 0) ≡ 41508000
  pub to_last_branch : travel_to tree 12 (sender_at tree 0) ≡ 41508000
  pub turned : travel_to turned 10 (sender_at turned 0) ≡ 41508000
  pub of_other : travel_to joined_trees 8 (sender_at joined_trees 1) ≡ 13836000
  pub of_flow : travel_to joined_trees 12 (sender_at joined_trees 2) ≡ 27672000
  pub greatest : greatest_travel joined_trees 8 ≡ 27672000

-- travels in the worked network, over ports of 1000 and of 400 ps a bit with latencies of 1600000 and 2630000 ps: the
-- longest frames of its senders have 8160, 9760 and 11360 bits
pub record TravelsAreWorked : Type 0 where
  pub over_first : time_over way 1000 0 ≡ 9760000
  pub over_second : time_over way 1000 2 ≡ 5894000
  pub to_first : travel_to way 0 (sender_at way 0) ≡ 0
  pub to_second : travel_to way 2 (sender_at way 0) ≡ 9760000
  pub to_last : travel_to way 4 (sender_at way 0) ≡ 15654000
  pub of_second : travel_to way 4 (sender_at way 1) ≡ 17894000
  pub of_flow : travel_to way 4 (sender_at way 2) ≡ 20134000
  pub over_trees : TravelsTurnOff
  pub none : greatest_travel way 0 ≡ 0
  pub greatest : greatest_travel way 4 ≡ 20134000

-- the release of a longest frame in the worked network, of so many octets
abbrev pub sent : ℕ → ℕ → ℕ → Release
sent at sender octets = record { at = record { 0 = at }; sender = sender; octets = octets }

-- the bursts in the worked network: its first stream has classes 6, 5 and 4, its second one is of class 5, and its flow
-- of class 0
pub record BurstsOfWay : Type 0 where
  pub first_first : IsBurstFor way 0 0 (sent 0 1 1200 ∷ sent 0 2 1400 ∷ sent 1 0 1000 ∷ [])
  pub first_second : IsBurstFor way 0 2 (sent 0 2 1400 ∷ sent 1600001 1 1200 ∷ sent 3200001 0 1000 ∷ [])
  pub first_last : IsBurstFor way 0 4 (sent 0 2 1400 ∷ sent 2240001 1 1200 ∷ sent 4480001 0 1000 ∷ [])
  pub second_first : IsBurstFor way 1 0 (sent 0 2 1400 ∷ sent 1 0 1000 ∷ sent 1 1 1200 ∷ [])
  pub second_second : IsBurstFor way 1 2 (sent 0 2 1400 ∷ sent 1600001 1 1200 ∷ sent 3200001 0 1000 ∷ [])
  pub second_last : IsBurstFor way 1 4 (sent 0 2 1400 ∷ sent 2240001 1 1200 ∷ sent 4480000 0 1000 ∷ [])

-- where the copies of two streams and a flow meet, behind the port at which they meet, and where one of the streams has
-- gone another way
pub record BurstsOfTrees : Type 0 where
  pub meeting : IsBurstFor joined_trees 0 8 (release 1 0 ∷ release 13836000 2 ∷ release 13836001 1 ∷ [])
  pub of_other : IsBurstFor joined_trees 1 8 (release 1 0 ∷ release 13836000 2 ∷ release 13836001 1 ∷ [])
  pub behind : IsBurstFor joined_trees 0 10 (release 1 0 ∷ release 13836001 1 ∷ [])
  pub turned_off : IsBurstFor joined_trees 0 12 (release 1 0 ∷ release 13836000 2 ∷ [])
  pub alone : IsBurstFor joined_trees 0 6 (release 1 0 ∷ [])

-- a stream of a higher class interferes, and one of a lower class does not; of a stream whose class falls to 5 at the
-- second port it is the class there that counts, for itself as for the other; of three frames that a burst covers each
-- is released where they interfere, else one; and a stream that travels over one bridge less is released later by what
-- a longest frame takes over a port, 12336000 ps of transmission and 1500000 ps of latency
pub record BurstsAreWorked : Type 0 where
  pub below : IsBurstFor line_of_classes 1 0 (release 1 0 ∷ release 1 1 ∷ [])
  pub above : IsBurstFor line_of_classes 0 0 (release 0 1 ∷ release 1 0 ∷ [])
  pub lowered_first : IsBurstFor line_lowered 1 0 (release 1 0 ∷ release 1 1 ∷ [])
  pub lowered : IsBurstFor line_lowered 1 2 (release 1 0 ∷ release 1 1 ∷ [])
  pub not_lowered_first : IsBurstFor line_lowered 0 0 (release 1 0 ∷ release 1 1 ∷ [])
  pub not_lowered : IsBurstFor line_lowered 0 2 (release 0 1 ∷ release 1 0 ∷ [])
  pub one_of_three : IsBurstFor line_of_three 0 0 (release 0 1 ∷ release 1 0 ∷ [])
  pub all_of_three : IsBurstFor line_of_three 1 0 (release 1 0 ∷ release 1 1 ∷ release 1 1 ∷ release 1 1 ∷ [])
  pub joined : IsBurstFor joined 0 4 (release 1 0 ∷ release 13836001 1 ∷ [])
  pub of_way : BurstsOfWay
  pub of_trees : BurstsOfTrees
