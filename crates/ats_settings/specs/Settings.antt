use Rattle.std.specs.Prelude.{◌≡◌, ℕ, ◌<◌, true, nat_lt, List, [], ◌∷◌, length, IsPermutation, Option, Some, None}
use Rattle.std.specs.Prelude.{if◌then◌else◌, is_some, slice_index_or, unwrap_or}
use Rattle.std.specs.List.{flat_map, range_with_len}
use Rattle.std.specs.List.Sorted.{IsSortedByKey, IsStableByKey}
use Rattle.std.specs.Ordering.{nat_cmp, ordering_then}
use Rattle.std.specs.declared.cmp.Ordering.{Ordering}
use Rattle.ats_group.specs.declared.member.Member.{Member}
use Rattle.ats_topology.specs.Port.{port_at}
use Rattle.ats_network.specs.Class.{class_at, port_before}
use Rattle.ats_network.specs.Network.{DeclaredNetwork, senders_of}
use Rattle.ats_network.specs.Senders.{sender_at}
use Rattle.ats_schedulers.specs.Schedulers.{member_behind, residences_of}
use Rattle.ats_settings.specs.declared.setting.Setting.{Setting}
use Rattle.ats_settings.specs.declared.setting.Shaping.{Shaping}

-- what is told of the scheduler of a member of the network's groups: the rate and burst that it has there, and the
-- maximum residence time of its group
abbrev pub shaping_of : DeclaredNetwork → Member → Shaping
shaping_of network member = record {
  rate_bps = member.declared.rate;
  burst_bits = member.declared.burst_bits;
  residence_ns = slice_index_or (residences_of network) member.group 0;
}

-- the same of the scheduler behind the port from which a stream's frames come; a flow has none
abbrev pub scheduler_behind : DeclaredNetwork → ℕ → ℕ → Option Shaping
scheduler_behind network sender port =
    if nat_lt sender (length network.streams)
    then Some (shaping_of network (member_behind network.topology (sender_at network sender) port))
    else None

-- the port at a place of a sender's ports
abbrev pub port_at_place : DeclaredNetwork → ℕ → ℕ → ℕ
port_at_place network sender place = slice_index_or (sender_at network sender).ports place 0

-- the port before the one at a place, on the sender's routes: through it the frames come to the bridge that the one at
-- the place leaves. Before those that leave the talker there is none
abbrev pub port_behind : DeclaredNetwork → ℕ → ℕ → Option ℕ
port_behind network sender place = port_before (sender_at network sender) (port_at_place network sender place)

-- a place of a sender's ports at which is one that leaves a bridge to which the sender's frames come: any but one that
-- leaves its talker
pub record LeavesBridge (network : DeclaredNetwork) (sender place : ℕ) : Type 0 where
  pub exists : sender < length (senders_of network)
  pub within : place < length (sender_at network sender).ports
  pub comes : is_some (port_behind network sender place) ≡ true

-- what the bridge that a sender's frames leave by the port at a place is told of them: they come through the port
-- before it on their routes, and go on by it
abbrev pub setting_at : DeclaredNetwork → ℕ → ℕ → Setting
setting_at network sender place =
    let s = sender_at network sender in
    let sent_to = port_at_place network sender place in
    let received_from = unwrap_or (port_behind network sender place) 0 in
    record {
      bridge = (port_at network.topology.ports received_from).to;
      received_from = received_from;
      class = class_at s received_from;
      sender = sender;
      scheduler = scheduler_behind network sender received_from;
      max_octets = s.max_octets;
      sent_to = sent_to;
      class_there = class_at s sent_to;
    }

-- the setting at a place, where the sender's frames come to the bridge that the port there leaves
abbrev pub settings_at : DeclaredNetwork → ℕ → ℕ → List Setting
settings_at network sender place =
    if is_some (port_behind network sender place) then setting_at network sender place ∷ [] else []

-- the settings of a sender, one for each of its ports that leaves such a bridge
abbrev pub sender_settings : DeclaredNetwork → ℕ → List Setting
sender_settings network sender =
    flat_map (settings_at network sender) (range_with_len 0 (length (sender_at network sender).ports))

-- those of all senders, one sender after the other
abbrev pub hop_settings : DeclaredNetwork → List Setting
hop_settings network = flat_map (sender_settings network) (range_with_len 0 (length (senders_of network)))

-- where a setting stands among the others: the numbers of its bridge and its port of reception, and the class there
abbrev pub place_of : Setting → ℕ × ℕ × ℕ
place_of s = (s.bridge, s.received_from, s.class)

-- places by bridge, then by port, then by class
abbrev pub place_cmp : ℕ × ℕ × ℕ → ℕ × ℕ × ℕ → Ordering
place_cmp x y = ordering_then (ordering_then (nat_cmp x.0 y.0) (nat_cmp x.1 y.1)) (nat_cmp x.2 y.2)

-- these are the earlier settings by place, and at equal places in the order that they had
pub record AreInOrder (earlier settings : List Setting) : Type 0 where
  pub same : IsPermutation earlier settings
  pub by_place : IsSortedByKey place_of place_cmp settings
  pub ties : IsStableByKey place_of place_cmp earlier settings

-- the settings of a network: those of all ports by bridge, then by port of reception, then by class there, then by
-- sender
abbrev pub AreSettings : DeclaredNetwork → List Setting → Type 0
AreSettings network settings = AreInOrder (hop_settings network) settings

-- the numbers in a setting are those of a node, two ports and a sender of the network
pub record IsSettingOf (network : DeclaredNetwork) (s : Setting) : Type 0 where
  pub bridge : s.bridge < length network.topology.nodes
  pub received_from : s.received_from < length network.topology.ports
  pub sender : s.sender < length (senders_of network)
  pub sent_to : s.sent_to < length network.topology.ports
