use Rattle.std.specs.Prelude.{◌≡◌, ◌↔◌, ℕ, List, IsPermutation, Some, None, length}
use Rattle.std.specs.List.{flat_map, range_with_len}
use Rattle.std.specs.List.Sorted.{IsSortedByKey, IsStableByKey}
use Rattle.ats_network.specs.Class.{port_before}
use Rattle.ats_network.specs.Network.{DeclaredNetwork, senders_of}
use Rattle.ats_network.specs.Sender.{Sender}
use Rattle.ats_settings.specs.Settings.{AreSettings, hop_settings, place_cmp, sender_settings}
use Rattle.ats_settings.specs.declared.setting.Setting.{Setting}
use Rattle.ats_buffer.specs.Buffer.{counted_at}

-- Where settings stand, and where frames that are together at a port are counted.

-- the numbers of a setting's bridge and of its port of reception, and the class there
abbrev pub stands_at : Setting → ℕ × ℕ × ℕ
stands_at s = (s.bridge, s.received_from, s.class)

-- refuses settings in the order of names, or of ports in front of bridges, and frames that are counted elsewhere than
-- at the port before, or at the first port of a sender, before which there is none
pub record PlacesAreMeant : Type 0 where
  pub settings : (network : DeclaredNetwork) (settings : List Setting)
      → AreSettings network settings
      ↔ (IsPermutation (flat_map (sender_settings network) (range_with_len 0 (length (senders_of network)))) settings
      × IsSortedByKey stands_at place_cmp settings
      × IsStableByKey stands_at place_cmp
      (flat_map (sender_settings network) (range_with_len 0 (length (senders_of network)))) settings)
  pub behind : (sender : Sender) (port before : ℕ) → port_before sender port ≡ Some before
      → counted_at sender port ≡ before
  pub first : (sender : Sender) (port : ℕ) → port_before sender port ≡ None → counted_at sender port ≡ port
