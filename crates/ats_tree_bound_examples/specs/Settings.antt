use Rattle.std.specs.Prelude.{◌≡◌, ℕ, List, [], ◌∷◌, ◌++◌, codes, Some}
use Rattle.ats_network.specs.Network.{IsNetwork}
use Rattle.ats_settings.specs.declared.setting.Setting.{Setting}
use Rattle.ats_settings_law.specs.Laws.{AreOnlySettings}
use Rattle.ats_settings_text.specs.Text.{settings_text}
use Rattle.ats_tree_examples.specs.Networks.{behind_bridge, from_bridge, split, split_by_class, tree, turned}

-- What bridges are told of streams with several listeners.

-- what a bridge is told of a sender of 1522 octets at most, with this rate and maximum residence time in nanoseconds:
-- its frames come from one port in class 6, and go on by the other in this class
abbrev pub told_of : ℕ → ℕ → ℕ → ℕ → ℕ → ℕ → ℕ → Setting
told_of sender rate_bps residence_ns bridge received_from sent_to class_there = record {
  bridge = bridge;
  received_from = received_from;
  class = 6;
  sender = sender;
  scheduler = Some (record { rate_bps = rate_bps; burst_bits = 12336; residence_ns = residence_ns });
  max_octets = 1522;
  sent_to = sent_to;
  class_there = class_there;
}

abbrev pub split_settings : List Setting
split_settings = told_of 0 100000000 1000000 3 0 2 6 ∷ told_of 0 100000000 1000000 3 0 4 6 ∷ []

abbrev pub settings_by_class : List Setting
settings_by_class =
    told_of 0 100000000 100000 3 0 2 6 ∷ told_of 0 100000000 100000 3 0 4 5 ∷ told_of 1 50000000 100000 3 0 4 5 ∷ []

abbrev pub tree_settings : List Setting
tree_settings =
    told_of 0 100000000 1000000 5 0 2 6 ∷ told_of 0 100000000 1000000 5 0 6 6
    ∷ told_of 0 100000000 1000000 6 2 4 6 ∷ told_of 0 100000000 1000000 6 2 8 6
    ∷ told_of 0 100000000 1000000 7 8 10 6 ∷ told_of 0 100000000 1000000 7 8 12 6
    ∷ []

-- with the listeners in another order: of settings of one place, that of the ports
abbrev pub turned_settings : List Setting
turned_settings =
    told_of 0 100000000 1000000 5 0 6 6 ∷ told_of 0 100000000 1000000 5 0 2 6
    ∷ told_of 0 100000000 1000000 6 2 4 6 ∷ told_of 0 100000000 1000000 6 2 8 6
    ∷ told_of 0 100000000 1000000 7 8 12 6 ∷ told_of 0 100000000 1000000 7 8 10 6
    ∷ []

-- of a stream that a bridge sends by three ports that bridge is told nothing, and the next one, to which one of these
-- leads, how its frames go on from there
abbrev pub own_settings : List Setting
own_settings = told_of 0 100000000 1000000 5 3 6 6 ∷ []

abbrev pub behind_settings : List Setting
behind_settings = told_of 0 100000000 1000000 5 3 6 6 ∷ told_of 0 100000000 1000000 5 3 1 6 ∷ []

abbrev pub split_set : List ℕ
split_set =
    codes "bridge,received_from,class,stream,rate_bps,burst_bits,max_octets,residence_ns,sent_to,class_there\n"
    ++ codes "b1,s1>b1,6,a,100000000,12336,1522,1000000,b1>s2,6\n"
    ++ codes "b1,s1>b1,6,a,100000000,12336,1522,1000000,b1>s3,6\n"

-- the bridge where a branch begins is told of the stream once for each port by which its frames go on. They come from
-- one port, and one scheduler judges them, so both settings tell the same group and the same of the scheduler; the
-- class behind is that at each port of its own. Over the tree each setting names the port before on the route, which
-- need not be the one before among the stream's ports; and settings of one place are in the order of the stream's
-- ports, which need not be that of their numbers
pub record BridgesAreTold : Type 0 where
  pub rules : IsNetwork split
  pub over_one : AreOnlySettings split split_settings
  pub by_class : AreOnlySettings split_by_class settings_by_class
  pub over_three : AreOnlySettings tree tree_settings
  pub in_another_order : AreOnlySettings turned turned_settings
  pub of_a_bridge : AreOnlySettings from_bridge own_settings
  pub behind_a_bridge : AreOnlySettings behind_bridge behind_settings
  pub written : settings_text split split_settings ≡ split_set
