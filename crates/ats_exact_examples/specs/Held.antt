use Rattle.std.specs.Prelude.{◌≡◌, ℕ, ◌+◌, ◌*◌, ◌==◌, ◌&&◌, nat_le, nat_lt, List, [], ◌∷◌, length, filter, sum_by}
use Rattle.std.specs.Prelude.{Some, None, is_some, if◌then◌else◌}
use Rattle.std.specs.List.{flat_map, range_with_len}
use Rattle.ats_topology.specs.Port.{port_at, spread_of}
use Rattle.ats_network.specs.Class.{class_at, port_before}
use Rattle.ats_network.specs.Network.{DeclaredNetwork}
use Rattle.ats_network.specs.Sender.{Sender}
use Rattle.ats_network.specs.Senders.{sender_at}
use Rattle.ats_certificate.specs.declared.row.Row.{Row}
use Rattle.ats_trace.specs.Journey.{Travel}
use Rattle.ats_trace.specs.Projections.{Crossing, crossings_by}
use Rattle.ats_buffer.specs.Buffer.{of_row, stay_at, way_to}
use Rattle.ats_buffer.specs.Occupancy.{occupancy}
use Rattle.ats_settings.specs.Settings.{port_at_place, sender_settings, setting_at, settings_at}

-- What a port holds, how long frames stay there, by how much their ways to it differ, and which settings there are, of
-- any network.

-- a port holds each frame of the class, of whatever size, from when it has come to the port's node until its
-- transmission ends; a frame's ways to a port differ by the wait and the spread of the port before, in the class that
-- its own sender has there
pub record HeldIsExact : Type 0 where
  pub occupancy : (network : DeclaredNetwork) (run : List Travel) (port class time : ℕ)
      → occupancy network run port class time
      ≡ sum_by (λ (c : Crossing). c.sent.bits)
      (filter (λ (c : Crossing). c.sent.class == class && (nat_le c.came time && nat_lt time c.sent.end))
      (crossings_by network run port))
  pub stay : (network : DeclaredNetwork) (rows : List Row) (port class : ℕ)
      → stay_at network rows port class
      ≡ of_row (λ (row : Row). row.wait + (port_at network.topology.ports port).ps_per_bit * row.least) rows port class
  pub behind : (network : DeclaredNetwork) (rows : List Row) (s : Sender) (port before : ℕ)
      → port_before s port ≡ Some before
      → way_to network rows s port
      ≡ of_row (λ (row : Row). row.wait) rows before (class_at s before)
      + spread_of (port_at network.topology.ports before)
  pub first : (network : DeclaredNetwork) (rows : List Row) (s : Sender) (port : ℕ) → port_before s port ≡ None
      → way_to network rows s port ≡ 0

-- each port of a sender that leaves a bridge to which its frames come has one setting, once, and no other port has any
pub record EachIsSetOnce : Type 0 where
  pub once : (network : DeclaredNetwork) (sender place : ℕ)
      → settings_at network sender place
      ≡ (if is_some (port_before (sender_at network sender) (port_at_place network sender place))
      then setting_at network sender place ∷ [] else [])
  pub each : (network : DeclaredNetwork) (sender : ℕ)
      → sender_settings network sender
      ≡ flat_map (settings_at network sender) (range_with_len 0 (length (sender_at network sender).ports))
