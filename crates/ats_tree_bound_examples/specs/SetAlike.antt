use Rattle.std.specs.Prelude.{◌≡◌, ◌≢◌, ℕ, List, [], ◌∷◌, codes, All, None}
use Rattle.ats_streams.specs.Stream.{branching_stream}
use Rattle.ats_streams.specs.Traffic.{is_declared_size}
use Rattle.ats_group.specs.Group.{Offer}
use Rattle.ats_group.specs.Judge.{ats_judge}
use Rattle.ats_network.specs.Network.{DeclaredNetwork, long_network, senders_of}
use Rattle.ats_trace.specs.Eligibility.{declared_by, residence_of_groups, scheduled_by}
use Rattle.ats_settings.specs.Laws.{GoesOnBy}
use Rattle.ats_settings.specs.declared.setting.Setting.{Setting}
use Rattle.ats_settings_law.specs.Laws.{AreSetAlike, IsKnown, IsNamed, IsNotShort}
use Rattle.ats_examples.specs.Networks.{flow}
use Rattle.ats_tree_examples.specs.Networks.{branch, split_and_flow, split_topology, tree}
use Rattle.ats_tree_bound_examples.specs.Settings.{told_of}

-- Networks that are not the same, whose bridges are told the same.

-- over the split a stream and a flow with other names than a and f; the stream has at least 100 octets, and a deadline
-- of 0.5 ms
abbrev pub renamed : DeclaredNetwork
renamed = long_network split_topology
    (branching_stream (codes "b") (0 ∷ 2 ∷ 4 ∷ []) (branch 2 0 1 ∷ []) (6 ∷ 6 ∷ 6 ∷ []) 100000000 12336 100 1522 500000
    None
    ∷ [])
    (flow (codes "g") (5 ∷ 2 ∷ []) ∷ [])

-- what the bridge is told of the flow from s3 to s2: it has no scheduler
abbrev pub told_of_flow : Setting
told_of_flow = record {
  bridge = 3;
  received_from = 5;
  class = 0;
  sender = 1;
  scheduler = None;
  max_octets = 1522;
  sent_to = 2;
  class_there = 0;
}

abbrev pub settings_of_both : List Setting
settings_of_both =
    told_of 0 100000000 1000000 3 0 2 6 ∷ told_of 0 100000000 1000000 3 0 4 6 ∷ told_of_flow ∷ []

-- frames of the stream, of its greatest size, of one octet more, of the greatest size of all frames, and of the least
-- that both networks declare
abbrev pub frame_of : ℕ → ℕ → Offer
frame_of arrival octets = record { member = 0; arrival = arrival; octets = octets }

abbrev pub frames : List Offer
frames =
    frame_of 13836000 1522 ∷ frame_of 26180000 1523 ∷ frame_of 42348000 2000 ∷ frame_of 43308000 100 ∷ []

-- a frame of the flow that is longer than it declares
abbrev pub long_of_flow : Offer
long_of_flow = record { member = 1; arrival = 13844000; octets = 1523 }

-- the bridges of two networks are told the same, whose senders differ in all of which no bridge is told. Frames are
-- known to both though they are longer than is declared, and are judged alike; so is the size of a frame of the flow
pub record TwoAreSetAlike : Type 0 where
  pub differ : senders_of split_and_flow ≢ senders_of renamed
  pub alike : AreSetAlike split_and_flow renamed settings_of_both
  pub known : All (IsKnown split_and_flow renamed settings_of_both 0) frames
  pub judged : ats_judge (scheduled_by split_and_flow 0) (residence_of_groups split_and_flow 0) frames
      ≡ ats_judge (scheduled_by renamed 0) (residence_of_groups renamed 0) frames
  pub named : IsNamed settings_of_both 1 5
  pub not_short : IsNotShort split_and_flow long_of_flow
  pub passed : is_declared_size (declared_by split_and_flow 1) 1523 ≡ is_declared_size (declared_by renamed 1) 1523

-- the frames of the tree go on by a port of the trunk, by the next one of a branch, and by that at which a branch of
-- this branch begins
pub record FramesGoOn : Type 0 where
  pub trunk : GoesOnBy tree 0 0 1 1
  pub begins : GoesOnBy tree 0 0 2 4
  pub on_branch : GoesOnBy tree 0 2 1 5
  pub off_branch : GoesOnBy tree 0 2 1 6

pub record SetAlikeIsMet : Type 0 where
  pub two : TwoAreSetAlike
  pub hops : FramesGoOn
