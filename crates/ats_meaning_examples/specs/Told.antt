use Rattle.std.specs.Prelude.{◌≡◌, ◌↔◌, ℕ, ◌+◌, ◌*◌, ◌/◌, ◌≤◌, ◌==◌, if◌then◌else◌, List, [], ◌++◌, length}
use Rattle.std.specs.Prelude.{filter, map, sum_by, Contains, IsPermutation, Some}
use Rattle.std.specs.List.{flat_map, list_any, range_with_len}
use Rattle.std.specs.List.Sorted.{IsSortedByKey, IsStableByKey}
use Rattle.ats_num.specs.declared.time.TheConstants.{PS_PER_SECOND}
use Rattle.ats_group.specs.Group.{Offer}
use Rattle.ats_topology.specs.Port.{port_at}
use Rattle.ats_topology.specs.declared.port.Port.{Port}
use Rattle.ats_streams.specs.Stream.{DeclaredStream}
use Rattle.ats_network.specs.Class.{PortSender, class_at}
use Rattle.ats_network.specs.Listeners.{Listener, listeners_of}
use Rattle.ats_network.specs.Network.{DeclaredNetwork, IsNetwork, senders_of}
use Rattle.ats_network.specs.Rates.{committed_at}
use Rattle.ats_network.specs.Sender.{Sender, stream_sender}
use Rattle.ats_certificate.specs.PortSums.{senders_at}
use Rattle.ats_certificate.specs.declared.row.Row.{Row}
use Rattle.ats_trace.specs.Eligibility.{declared_by}
use Rattle.ats_settings.specs.Settings.{AreSettings, hop_settings, place_cmp, place_of, sender_settings}
use Rattle.ats_settings.specs.declared.setting.Setting.{Setting}
use Rattle.ats_settings.specs.declared.setting.Shaping.{Shaping}
use Rattle.ats_settings_law.specs.Laws.{AreSetAlike, IsKnown, IsNamed}
use Rattle.ats_buffer.specs.Buffer.{buffer_at, counted_at, share_of, stay_at, way_to}
use Rattle.ats_explain.specs.Margins.{margin_on}
use Rattle.ats_explain.specs.Parts.{parts_of_hop}
use Rattle.ats_explain_text.specs.Text.{hop_line, port_line, port_text, stream_line, stream_text}

-- What is told of settings, of buffers and of a bound's parts, written out for all networks.

-- the settings of a network are those of each sender, and they are told by place, at one place as they stand here
pub record SettingsAreTold (network : DeclaredNetwork) : Type 0 where
  pub of_all : hop_settings network
      ≡ flat_map (sender_settings network) (range_with_len 0 (length (senders_of network)))
  pub in_order : (settings : List Setting) → AreSettings network settings
      ↔ (IsPermutation (hop_settings network) settings × IsSortedByKey place_of place_cmp settings
      × IsStableByKey place_of place_cmp (hop_settings network) settings)

-- networks that are set alike, a sender that settings name, and a frame that they know: nothing else is asked. Refuses
-- a premise beside these, as that clocks are ideal
pub record SettingAlikeIsMeant (one other : DeclaredNetwork) (settings : List Setting) : Type 0 where
  pub alike : AreSetAlike one other settings
      ↔ (IsNetwork one × IsNetwork other × (one.topology ≡ other.topology) × AreSettings one settings
      × AreSettings other settings)
  pub named : (sender port : ℕ) → IsNamed settings sender port
      ↔ ((s : Setting) × Contains settings s × (s.sender ≡ sender) × (s.received_from ≡ port))
  pub known : (port : ℕ) (offer : Offer) → IsKnown one other settings port offer
      ↔ ((named : IsNamed settings offer.member port) × (told : Shaping) × (named.setting.scheduler ≡ Some told)
      × ((declared_by one offer.member).min_octets ≤ offer.octets)
      × ((declared_by other offer.member).min_octets ≤ offer.octets))

-- what a sender may have at a port, by how long it may be there and by how much its ways to the port differ, and what
-- all streams of the class may
pub record BuffersAreTold (network : DeclaredNetwork) (rows : List Row) (port class : ℕ) : Type 0 where
  pub share : (s : Sender) → share_of network rows port class s
      ≡ (committed_at network.topology (counted_at s port) s).burst_bits
      + (committed_at network.topology (counted_at s port) s).rate
      * (stay_at network rows port class + way_to network rows s port) / PS_PER_SECOND
  pub buffer : buffer_at network rows port class
      ≡ sum_by (λ (s : DeclaredStream). share_of network rows port class (stream_sender s))
      (filter (λ (s : DeclaredStream). class_at (stream_sender s) port == class) network.streams)

-- of a stream a line for each listener, and behind it one for each port of its own leg; and of a port that a stream has
-- its load, of the rates of all streams there
pub record PartsAreTold (network : DeclaredNetwork) : Type 0 where
  pub stream : (s : DeclaredStream) → stream_text network s
      ≡ flat_map (λ (l : Listener). stream_line s.name l.name (margin_on network s l.route)
      ++ flat_map (λ port. hop_line network.topology port (class_at (stream_sender s) port)
      (parts_of_hop network s port)) l.leg) (listeners_of network.topology s)
  pub port : (n : ℕ) (at : Port) → port_text network (n, at)
      ≡ (if list_any (λ (s : Sender). list_any (λ p. p == n) s.ports) (map stream_sender network.streams)
      then port_line network.topology n ((port_at network.topology.ports n).ps_per_bit
      * sum_by (λ (s : PortSender). s.rate) (senders_at network.topology n (map stream_sender network.streams)))
      else [])

pub record ToldIsMeant : Type 0 where
  pub settings : (network : DeclaredNetwork) → SettingsAreTold network
  pub set_alike : (one other : DeclaredNetwork) (settings : List Setting) → SettingAlikeIsMeant one other settings
  pub buffers : (network : DeclaredNetwork) (rows : List Row) (port class : ℕ)
      → BuffersAreTold network rows port class
  pub parts : (network : DeclaredNetwork) → PartsAreTold network
