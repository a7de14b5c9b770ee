use Rattle.std.specs.Prelude.{ℕ, ◌-◌, ◌/◌, ◌<◌, ◌≤◌, ◌^◌, ◌==◌, List, [], ◌∷◌, map, filter, Option, Some, None}
use Rattle.std.specs.Prelude.{IsPermutation}
use Rattle.std.specs.List.Sorted.{IsNonDecreasingBy}
use Rattle.ats_num.specs.declared.time.TheConstants.{PS_PER_NS}
use Rattle.ats_num.specs.Wire.{IsFrameSize}
use Rattle.ats_streams.specs.Branches.{leg_at}
use Rattle.ats_network.specs.Network.{DeclaredNetwork}
use Rattle.ats_network.specs.Senders.{sender_at}
use Rattle.ats_port_rule.specs.Transmission.{Transmission}
use Rattle.ats_trace.specs.Journey.{Travel, legs_at}
use Rattle.ats_trace.specs.Projections.{Hop, hops_along, journey_hops}
use Rattle.ats_trace.specs.Stored.{leg_in}
use Rattle.ats_port_capture.specs.Capture.{octets_of, record_bytes}
use Rattle.ats_port_capture.specs.Frame.{captured_bytes, identity_of}
use Rattle.ats_port_capture.specs.declared.sighting.Sighting.{Sighting}

-- what is kept of a transmission of a run
abbrev pub sighting_of : List Travel → Transmission → Sighting
sighting_of run t = record {
  start = record { 0 = t.start };
  octets = octets_of run t.frame;
  sender = t.sender;
  class = t.class;
}

-- its record in a capture
abbrev pub sighting_record : DeclaredNetwork → Sighting → List ℕ
sighting_record network s =
    record_bytes (s.start.0 / PS_PER_NS) (s.octets - 4)
    (captured_bytes (identity_of network s.sender) s.sender s.class)

-- it can be written: it has a time, the octets of a frame, and a class
pub record IsWritable (s : Sighting) : Type 0 where
  pub start : s.start.0 < 2 ^ 64
  pub octets : IsFrameSize s.octets
  pub class : s.class ≤ 7

-- the same sightings, in the order in which the transmissions started
pub record AreReordered (sightings ordered : List Sighting) : Type 0 where
  pub same : IsPermutation sightings ordered
  pub in_order : IsNonDecreasingBy (λ (s : Sighting). s.start.0) ordered

-- a list of the one thing that there is, or of nothing
abbrev pub listed : {X : Type 0} → Option X → List X
listed None = []
listed (Some x) = x ∷ []

-- the transmissions of the frame with this number, and with this journey, by a port
abbrev pub sent_of : DeclaredNetwork → ℕ → ℕ → Travel → List Transmission
sent_of network port frame journey =
    map (λ (h : Hop). h.sent) (filter (λ (h : Hop). h.port == port) (journey_hops network frame journey))

-- those along one leg
abbrev pub sent_in : DeclaredNetwork → ℕ → ℕ → Travel → ℕ → List Transmission
sent_in network port frame journey leg =
    map (λ (h : Hop). h.sent) (filter (λ (h : Hop). h.port == port)
    (hops_along frame journey.release (sender_at network journey.release.sender)
    (leg_at (legs_at network journey.release.sender) leg) (leg_in journey leg).hops))
