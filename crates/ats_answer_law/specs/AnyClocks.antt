use Rattle.std.specs.Prelude.{◌≡◌, ◌↔◌, ℕ, zero, suc, ◌+◌, ◌-◌, ◌*◌, ◌/◌, ◌%◌, ◌<◌, List, [], ◌∷◌, ◌++◌}
use Rattle.std.specs.Prelude.{filter, fold, if◌then◌else◌, length, map, max, min, nat_le, replicate, sum_by}
use Rattle.ats_num.specs.Wire.{bits_of}
use Rattle.ats_topology.specs.Port.{port_at}
use Rattle.ats_bucket.specs.Scheduler.{eligibility_time}
use Rattle.ats_port_rule.specs.PortRule.{KeepsTie}
use Rattle.ats_certificate.specs.PortSums.{uses}
use Rattle.ats_network.specs.Class.{class_at}
use Rattle.ats_network.specs.Network.{DeclaredNetwork, senders_of}
use Rattle.ats_network.specs.Rates.{ports_to}
use Rattle.ats_network.specs.Sender.{Sender}
use Rattle.ats_network.specs.Senders.{sender_at}
use Rattle.ats_trace.specs.Journey.{Travel}
use Rattle.ats_trace.specs.Links.{KeepsPace}
use Rattle.ats_trace.specs.Projections.{crossings_by, sent_by}
use Rattle.ats_trace.specs.Run.{IsIdeal, IsRunBy}
use Rattle.ats_trace.specs.Talker.{frames_of}
use Rattle.ats_gen.specs.Draw.{draw}
use Rattle.ats_gen.specs.Made.{clock_of, empty_by, made, octets_of, stream_of}
use Rattle.ats_trace.specs.Eligibility.{declared_by}
use Rattle.ats_witness.specs.Burst.{burst_of, frames_in_burst, greatest_travel, time_in_burst, time_over, travel_to}

-- What asks no clock: runs by an order, travels, bursts and made releases are the same words whichever clocks the nodes
-- of a network declare. So they are written out here for all networks.

-- a run by true time in which each port breaks ties by this key, and frames arrive behind each by this wait
pub record IsKeyed (key wait : ℕ → ℕ → ℕ) (network : DeclaredNetwork) (run : List Travel) : Type 0 where
  pub ideal : IsIdeal network run
  pub pace : (port : ℕ) → port < length network.topology.ports
      → KeepsPace wait (port_at network.topology.ports port) (crossings_by network run port)
  pub tie : (port : ℕ) → port < length network.topology.ports → KeepsTie key (sent_by network run port)

-- how long so many octets take over a port
abbrev pub time_there : DeclaredNetwork → ℕ → ℕ → ℕ
time_there network octets p =
    (port_at network.topology.ports p).ps_per_bit * bits_of octets + (port_at network.topology.ports p).latency.0

-- how many frames a sender has in a burst
abbrev pub count_there : ℕ → ℕ → Sender → ℕ
count_there port class s =
    if uses port s then (if nat_le class (class_at s port) then min 40 (s.burst_bits / bits_of s.max_octets) else 1)
    else 0

-- the greatest time that the longest frames of senders with a port take to it
abbrev pub greatest_there : DeclaredNetwork → ℕ → ℕ
greatest_there network port =
    fold max 0 (map (λ (s : Sender). sum_by (time_there network s.max_octets) (ports_to s port))
    (filter (uses port) (senders_of network)))

-- refuses ties, travels, bursts and releases that are others where a node declares a clock
pub record NoClockIsAsked : Type 0 where
  pub run : (key wait : ℕ → ℕ → ℕ) (network : DeclaredNetwork) (run : List Travel)
      → IsRunBy key wait network run ↔ IsKeyed key wait network run
  pub over_port : (network : DeclaredNetwork) (octets p : ℕ) → time_over network octets p ≡ time_there network octets p
  pub travel : (network : DeclaredNetwork) (port : ℕ) (s : Sender)
      → travel_to network port s ≡ sum_by (time_there network s.max_octets) (ports_to s port)
  pub greatest : (network : DeclaredNetwork) (port : ℕ) → greatest_travel network port ≡ greatest_there network port
  pub time : (network : DeclaredNetwork) (port class : ℕ) (s : Sender) → time_in_burst network port class s
      ≡ (if nat_le class (class_at s port) then 1 + greatest_there network port - travel_to network port s
      else 1 + greatest_there network port - travel_to network port s - 1)
  pub count : (port class : ℕ) (s : Sender) → frames_in_burst port class s ≡ count_there port class s
  pub burst : (network : DeclaredNetwork) (port class i : ℕ)
      → burst_of network port class i ≡ replicate (count_there port class (sender_at network i)) (record {
        at = record { 0 = time_in_burst network port class (sender_at network i) };
        sender = i;
        octets = (sender_at network i).max_octets;
      })
  pub stream : (network : DeclaredNetwork) (frame : ℕ)
      → stream_of network frame ≡ frame % length network.streams
  pub octets : (network : DeclaredNetwork) (seed frame : ℕ) → octets_of network seed frame
      ≡ (sender_at network (stream_of network frame)).min_octets
      + draw seed (2 * frame)
      % ((sender_at network (stream_of network frame)).max_octets
      - (sender_at network (stream_of network frame)).min_octets + 1)
  pub none_made : (network : DeclaredNetwork) (seed : ℕ) → made network seed zero ≡ []
  pub made_next : (network : DeclaredNetwork) (seed frame : ℕ)
      → made network seed (suc frame) ≡ made network seed frame ++ (record {
        at = record {
          0 = eligibility_time (sender_at network (stream_of network frame)).rate
              (empty_by (declared_by network (stream_of network frame))
              (frames_of (stream_of network frame) (made network seed frame))) 0 (clock_of seed frame)
              (bits_of (octets_of network seed frame));
        };
        sender = stream_of network frame;
        octets = octets_of network seed frame;
      }) ∷ []
