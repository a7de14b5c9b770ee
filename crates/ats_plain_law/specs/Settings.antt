use Rattle.std.specs.Prelude.{◌≡◌, ℕ, [], ◌∷◌, length, if◌then◌else◌, is_some, unwrap_or, slice_index_or}
use Rattle.std.specs.List.{flat_map, range_with_len}
use Rattle.ats_topology.specs.Port.{port_at}
use Rattle.ats_network.specs.Class.{class_at, port_before}
use Rattle.ats_network.specs.Network.{DeclaredNetwork, senders_of}
use Rattle.ats_network.specs.Senders.{sender_at}
use Rattle.ats_settings.specs.Settings.{hop_settings, place_of, port_behind, scheduler_behind, sender_settings}
use Rattle.ats_settings.specs.Settings.{setting_at, settings_at}
use Rattle.ats_settings.specs.declared.setting.Setting.{Setting}

-- each place of a sender's ports is told by itself: the port there and the class there, and the port before it on the
-- sender's routes, by which the frames come to the bridge
pub record SettingIsPlain : Type 0 where
  pub to : (network : DeclaredNetwork) (s place : ℕ) → (setting_at network s place).sent_to
      ≡ slice_index_or (sender_at network s).ports place 0
  pub there : (network : DeclaredNetwork) (s place : ℕ) → (setting_at network s place).class_there
      ≡ class_at (sender_at network s) (slice_index_or (sender_at network s).ports place 0)
  pub from : (network : DeclaredNetwork) (s place : ℕ) → (setting_at network s place).received_from
      ≡ unwrap_or (port_behind network s place) 0
  pub behind : (network : DeclaredNetwork) (s place : ℕ) → port_behind network s place
      ≡ port_before (sender_at network s) (slice_index_or (sender_at network s).ports place 0)
  pub bridge : (network : DeclaredNetwork) (s place : ℕ) → (setting_at network s place).bridge
      ≡ (port_at network.topology.ports (setting_at network s place).received_from).to
  pub class : (network : DeclaredNetwork) (s place : ℕ) → (setting_at network s place).class
      ≡ class_at (sender_at network s) (setting_at network s place).received_from
  pub sender : (network : DeclaredNetwork) (s place : ℕ) → (setting_at network s place).sender ≡ s
  pub scheduler : (network : DeclaredNetwork) (s place : ℕ) → (setting_at network s place).scheduler
      ≡ scheduler_behind network s (setting_at network s place).received_from
  pub longest : (network : DeclaredNetwork) (s place : ℕ) → (setting_at network s place).max_octets
      ≡ (sender_at network s).max_octets

-- there is one for each place of each sender to which frames come by a port before it, sender by sender and place by
-- place; and they are told by bridge, port and class
pub record ListIsPlain : Type 0 where
  pub at : (network : DeclaredNetwork) (s place : ℕ) → settings_at network s place
      ≡ (if is_some (port_behind network s place) then setting_at network s place ∷ [] else [])
  pub sender : (network : DeclaredNetwork) (s : ℕ) → sender_settings network s
      ≡ flat_map (settings_at network s) (range_with_len 0 (length (sender_at network s).ports))
  pub all : (network : DeclaredNetwork) → hop_settings network
      ≡ flat_map (sender_settings network) (range_with_len 0 (length (senders_of network)))
  pub place : (x : Setting) → place_of x ≡ (x.bridge, x.received_from, x.class)

pub record SettingsArePlain : Type 0 where
  pub each : SettingIsPlain
  pub list : ListIsPlain
