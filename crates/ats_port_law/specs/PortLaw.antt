use Rattle.std.specs.Prelude.{◌≡◌, ℕ, ◌+◌, ◌-◌, ◌*◌, ◌<◌, ◌≤◌, Bool, ◌&&◌, ◌==◌, nat_le, IsTrue, List, length, map}
use Rattle.std.specs.Prelude.{filter, sum_by, All, IsPermutation}
use Rattle.ats_num.specs.declared.time.TheConstants.{PS_PER_SECOND}
use Rattle.ats_topology.specs.Port.{port_at}
use Rattle.ats_network.specs.Network.{DeclaredNetwork, IsNetwork, senders_of}
use Rattle.ats_num.specs.Wire.{bits_of}
use Rattle.ats_certificate.specs.PortSums.{uses, is_used}
use Rattle.ats_certificate.specs.Certificate.{Covers}
use Rattle.ats_certificate.specs.declared.row.Row.{Row}
use Rattle.ats_bucket.specs.Conforming.{Frame, Conforms}
use Rattle.ats_port_rule.specs.Transmission.{Transmission}
use Rattle.ats_port_rule.specs.PortRule.{KeepsPortRule, KeepsPortRuleBy}
use Rattle.ats_network.specs.Class.{class_at}
use Rattle.ats_network.specs.Rates.{committed_at}
use Rattle.ats_network.specs.Senders.{sender_at}

-- a transmission of a frame that a sender of the port may send: of its class there, with a size that it declares
pub record IsDeclared (network : DeclaredNetwork) (port : ℕ) (x : Transmission) : Type 0 where
  pub exists : x.sender < length (senders_of network)
  pub uses : IsTrue (uses port (sender_at network x.sender))
  pub class : x.class ≡ class_at (sender_at network x.sender) port
  pub least : bits_of (sender_at network x.sender).min_octets ≤ x.bits
  pub most : x.bits ≤ bits_of (sender_at network x.sender).max_octets

-- a transmission as a token bucket counts it, by its eligibility time
abbrev pub frame_of : Transmission → Frame
frame_of x = record { at = x.eligible; bits = x.bits }

-- the frames of a sender among transmissions
abbrev pub frames_by : ℕ → List Transmission → List Frame
frames_by i sent = map frame_of (filter (λ (x : Transmission). x.sender == i) sent)

-- frames conform when they are put in the order of their times
pub record ConformsInOrder (rate burst : ℕ) (frames : List Frame) : Type 0 where
  pub order : List Frame
  pub same : IsPermutation frames order
  pub conforms : Conforms rate burst order

-- transmissions that a port may be asked to make: each of a declared size, and those of each stream conform to what the
-- port sees of it
pub record IsOffered (network : DeclaredNetwork) (port : ℕ) (sent : List Transmission) : Type 0 where
  pub each : All (IsDeclared network port) sent
  pub streams : (i : ℕ) → i < length network.streams
      → ConformsInOrder (committed_at network.topology port (sender_at network i)).rate
      (committed_at network.topology port (sender_at network i)).burst_bits (frames_by i sent)

-- a transmission is of a sender, was eligible no earlier than a time, and was told no later one than another
abbrev pub is_counted : (Transmission → ℕ) → ℕ → ℕ → Transmission → Transmission → Bool
is_counted told i from x y = y.sender == i && (nat_le from y.eligible && nat_le (told y) (told x))

-- the bits of these
abbrev pub bits_counted : (Transmission → ℕ) → ℕ → ℕ → Transmission → List Transmission → ℕ
bits_counted told i from x sent = sum_by (λ (y : Transmission). y.bits) (filter (is_counted told i from x) sent)

-- transmissions that a port may be asked to make that goes by the times that frames were told: besides, in each class a
-- frame that was told an earlier time than another one was eligible no later; and those of a stream that were eligible
-- since a time, and told no later one than a frame of its class, are no more than what the port sees of the stream
-- gives until that frame is eligible
pub record IsOfferedBy (told : Transmission → ℕ) (network : DeclaredNetwork) (port : ℕ) (sent : List Transmission)
    : Type 0 where
  pub offered : IsOffered network port sent
  pub in_order : All (λ (x : Transmission).
      All (λ (y : Transmission). x.class ≡ y.class → told x < told y → x.eligible ≤ y.eligible) sent) sent
  pub counted : (i from : ℕ) → i < length network.streams → All (λ (x : Transmission).
      x.class ≡ class_at (sender_at network i) port → from ≤ x.eligible
      → PS_PER_SECOND * bits_counted told i from x sent
      ≤ (committed_at network.topology port (sender_at network i)).rate * (x.eligible - from)
      + PS_PER_SECOND * (committed_at network.topology port (sender_at network i)).burst_bits) sent

-- a frame of the class arrives behind the port within the bound of its eligibility
abbrev pub IsWithinBound : DeclaredNetwork → Row → Transmission → Type 0
IsWithinBound network row x = x.class ≡ row.class
    → x.end + (port_at network.topology.ports row.port).latency.0 ≤ x.eligible + row.bound

-- where a row covers its port, and the port keeps the port rule by the times that frames were told with what it may be
-- asked to send, each frame of the row's class is within the row's bound, whatever lawful order the port takes
abbrev pub PortLawBy : Type 0
PortLawBy = (told : Transmission → ℕ) (network : DeclaredNetwork) (row : Row) (sent : List Transmission)
    → IsNetwork network → IsTrue (is_used network row.port row.class)
    → Covers network row → KeepsPortRuleBy told (port_at network.topology.ports row.port).ps_per_bit sent
    → IsOfferedBy told network row.port sent
    → All (IsWithinBound network row) sent

-- so where each frame was told its eligibility time
abbrev pub PortLaw : Type 0
PortLaw = (network : DeclaredNetwork) (row : Row) (sent : List Transmission) → IsNetwork network
    → IsTrue (is_used network row.port row.class)
    → Covers network row → KeepsPortRule (port_at network.topology.ports row.port).ps_per_bit sent
    → IsOffered network row.port sent
    → All (IsWithinBound network row) sent
