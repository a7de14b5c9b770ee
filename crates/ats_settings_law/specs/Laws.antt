use Rattle.std.specs.Prelude.{◌≡◌, ◌↔◌, ℕ, ◌<◌, ◌≤◌, List, length, All, Contains, Some, IsSome}
use Rattle.std.specs.Option.{ForSome}
use Rattle.ats_streams.specs.Traffic.{is_declared_size}
use Rattle.ats_group.specs.Group.{Offer}
use Rattle.ats_group.specs.Judge.{ats_judge}
use Rattle.ats_topology.specs.Port.{port_at}
use Rattle.ats_network.specs.Class.{class_at, port_before}
use Rattle.ats_network.specs.Network.{DeclaredNetwork, IsNetwork, senders_of}
use Rattle.ats_network.specs.Senders.{sender_at}
use Rattle.ats_trace.specs.Eligibility.{declared_by, residence_of_groups, scheduled_by}
use Rattle.ats_settings.specs.Settings.{AreSettings}
use Rattle.ats_settings.specs.declared.setting.Setting.{Setting}
use Rattle.ats_settings.specs.declared.setting.Shaping.{Shaping}

-- what is told of a sender's scheduler is the rate and the burst that it has behind a port, and the maximum residence
-- time of the groups there
pub record IsSchedulerOf (network : DeclaredNetwork) (sender port : ℕ) (told : Shaping) : Type 0 where
  pub rate : told.rate_bps ≡ (scheduled_by network port sender).rate
  pub burst : told.burst_bits ≡ (scheduled_by network port sender).burst_bits
  pub residence : told.residence_ns ≡ residence_of_groups network port

-- what a setting tells is so in the network: its sender goes on by the one port from the other, which leads to that
-- bridge, is in those classes there, and has that greatest size and that scheduler; a stream has one, and a flow none
pub record IsTrueOf (network : DeclaredNetwork) (s : Setting) : Type 0 where
  pub exists : s.sender < length (senders_of network)
  pub path : port_before (sender_at network s.sender) s.sent_to ≡ Some s.received_from
  pub bridge : s.bridge ≡ (port_at network.topology.ports s.received_from).to
  pub class : s.class ≡ class_at (sender_at network s.sender) s.received_from
  pub class_there : s.class_there ≡ class_at (sender_at network s.sender) s.sent_to
  pub most : s.max_octets ≡ (declared_by network s.sender).max_octets
  pub shaped : IsSome s.scheduler ↔ (s.sender < length network.streams)
  pub scheduler : ForSome s.scheduler (IsSchedulerOf network s.sender s.received_from)

-- each setting of a network tells what is so
abbrev pub EachSettingIsTrue : Type 0
EachSettingIsTrue = (network : DeclaredNetwork) (settings : List Setting) → IsNetwork network
    → AreSettings network settings → All (IsTrueOf network) settings

-- two networks have one topology, and these are the settings of both
pub record AreSetAlike (one other : DeclaredNetwork) (settings : List Setting) : Type 0 where
  pub is_network : IsNetwork one
  pub is_network_too : IsNetwork other
  pub topology : one.topology ≡ other.topology
  pub is_set : AreSettings one settings
  pub is_set_too : AreSettings other settings

-- one of the settings is of this sender, at the bridge to which this port leads
pub record IsNamed (settings : List Setting) (sender port : ℕ) : Type 0 where
  pub setting : Setting
  pub among : Contains settings setting
  pub of_sender : setting.sender ≡ sender
  pub behind : setting.received_from ≡ port

-- one of them is of this sender, received from this port and sent to that one
pub record IsNamedBetween (settings : List Setting) (sender before port : ℕ) : Type 0 where
  pub named : IsNamed settings sender before
  pub sent_to : named.setting.sent_to ≡ port

-- wherever a sender's frames go on by a port from the one before on their routes, one of the network's settings says so
abbrev pub EachHopIsNamed : Type 0
EachHopIsNamed = (network : DeclaredNetwork) (settings : List Setting) → IsNetwork network
    → AreSettings network settings → (sender : ℕ) → sender < length (senders_of network) → (before port : ℕ)
    → port_before (sender_at network sender) port ≡ Some before → IsNamedBetween settings sender before port

-- a frame has no fewer octets than the network declares of its sender
abbrev pub IsNotShort : DeclaredNetwork → Offer → Type 0
IsNotShort network offer = (declared_by network offer.member).min_octets ≤ offer.octets

-- a frame comes through this port, of a stream that the settings name there with a scheduler, and is not shorter than
-- either network declares
pub record IsKnown (one other : DeclaredNetwork) (settings : List Setting) (port : ℕ) (offer : Offer) : Type 0 where
  pub named : IsNamed settings offer.member port
  pub scheduler : Shaping
  pub shaped : named.setting.scheduler ≡ Some scheduler
  pub not_short : IsNotShort one offer
  pub not_short_there : IsNotShort other offer

-- networks of one topology that have the same settings judge alike every list of frames that come to a group behind a
-- port, of streams that the settings name there, and none shorter than is declared
abbrev pub GroupsJudgeAlike : Type 0
GroupsJudgeAlike = (one other : DeclaredNetwork) (settings : List Setting) → AreSetAlike one other settings
    → (port : ℕ) (offers : List Offer) → All (IsKnown one other settings port) offers
    → ats_judge (scheduled_by one port) (residence_of_groups one port) offers
    ≡ ats_judge (scheduled_by other port) (residence_of_groups other port) offers

-- and they let pass alike, by its size, each frame of a stream or flow that the settings name, if it is not shorter
-- than is declared
abbrev pub SizesPassAlike : Type 0
SizesPassAlike = (one other : DeclaredNetwork) (settings : List Setting) → AreSetAlike one other settings
    → (port : ℕ) (offer : Offer) → IsNamed settings offer.member port → IsNotShort one offer → IsNotShort other offer
    → is_declared_size (declared_by one offer.member) offer.octets
    ≡ is_declared_size (declared_by other offer.member) offer.octets

-- these are the settings of a network, and there are no others
pub record AreOnlySettings (network : DeclaredNetwork) (settings : List Setting) : Type 0 where
  pub are : AreSettings network settings
  pub only : (others : List Setting) → AreSettings network others → others ≡ settings

-- each network has just one list of settings
abbrev pub SettingsAreOne : Type 0
SettingsAreOne = (network : DeclaredNetwork) → (settings : List Setting) × AreOnlySettings network settings
