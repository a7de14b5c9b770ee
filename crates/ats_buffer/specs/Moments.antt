use Rattle.std.specs.Prelude.{◌≡◌, ℕ, ◌+◌, ◌*◌, ◌<◌, ◌≤◌, Bool, true, false, ◌&&◌, ◌==◌, not, nat_le, nat_lt, List, []}
use Rattle.std.specs.Prelude.{◌∷◌, length, filter, sum_by, All, IsPermutation, if◌then◌else◌, Option, Some, None}
use Rattle.std.specs.List.{flat_map}
use Rattle.std.specs.List.Sorted.{IsNonDecreasingBy}
use Rattle.ats_streams.specs.Branches.{leg_at}
use Rattle.ats_network.specs.Network.{DeclaredNetwork}
use Rattle.ats_network.specs.Senders.{sender_at}
use Rattle.ats_num.specs.declared.time.Ps.{Ps}
use Rattle.ats_num.specs.declared.wire.TheConstants.{MAX_WIRE_BITS}
use Rattle.ats_trace.specs.Journey.{Leg, Travel, legs_at}
use Rattle.ats_trace.specs.Stored.{leg_in}
use Rattle.ats_trace.specs.HopRecord.{HopRecord}
use Rattle.ats_trace.specs.declared.journey.Release.{Release}
use Rattle.ats_trace.specs.Projections.{Crossing, crossings_along, crossings_from, journey_crossings}
use Rattle.ats_buffer.specs.declared.moments.Moment.{Moment}
use Rattle.ats_buffer.specs.declared.moments.TheConstants.{MAX_MOMENTS}

-- the moments of a frame of so many bits that comes to a port, where it has this class, at the first time, and whose
-- transmission ends at the second: that of its coming and that of its end, where there is time between them
abbrev pub moments_between : ℕ → ℕ → ℕ → ℕ → ℕ → List Moment
moments_between port class bits came end = if nat_lt came end
    then record { at = record { 0 = came }; comes = true; port = port; class = class; bits = bits }
    ∷ record { at = record { 0 = end }; comes = false; port = port; class = class; bits = bits } ∷ [] else []

-- those of a frame that came to the port at a time, by the times of its transmission there: none where it was not sent
abbrev pub sent_moments : ℕ → ℕ → ℕ → ℕ → Option (Ps × Ps) → List Moment
sent_moments port class bits came None = []
sent_moments port class bits came (Some times) = moments_between port class bits came times.1.0

-- those that a frame's record at the port tells of
abbrev pub moments_at : ℕ → ℕ → ℕ → HopRecord → List Moment
moments_at port class bits hop = sent_moments port class bits hop.arrival.0 hop.sent

-- those of a crossing
abbrev pub moments_of : Crossing → List Moment
moments_of c = moments_between c.port c.sent.class c.sent.bits c.came c.sent.end

-- those of the crossings of a frame along a leg with these ports
abbrev pub moments_over : DeclaredNetwork → ℕ → Release → List ℕ → Leg → List Moment
moments_over network frame release path leg =
    flat_map moments_of (crossings_along frame release (sender_at network release.sender) path leg.hops leg.ending)

-- of the frame with this number, along one of its legs
abbrev pub moments_of_leg : DeclaredNetwork → ℕ → Travel → ℕ → List Moment
moments_of_leg network frame journey leg = moments_over network frame journey.release
    (leg_at (legs_at network journey.release.sender) leg) (leg_in journey leg)

-- and of all its crossings
abbrev pub moments_of_frame : DeclaredNetwork → ℕ → Travel → List Moment
moments_of_frame network frame journey = flat_map moments_of (journey_crossings network frame journey)

-- and of all crossings of a run, frame by frame
abbrev pub moments_in : DeclaredNetwork → List Travel → List Moment
moments_in network run = flat_map moments_of (crossings_from network 0 run)

-- where a moment stands among others: they go by time, and at one time what ends goes before what comes
abbrev pub order_of : Moment → ℕ
order_of m = 2 * m.at.0 + (if m.comes then 1 else 0)

-- the moment is one of this port and class
abbrev pub is_of : ℕ → ℕ → Moment → Bool
is_of port class m = m.port == port && m.class == class

-- the port of the moment is one of so many, its class is one, and its bits are those of a frame
pub record IsInside (ports : ℕ) (m : Moment) : Type 0 where
  pub port : m.port < ports
  pub class : m.class ≤ 7
  pub bits : m.bits ≤ MAX_WIRE_BITS

-- the bits of the moments that pass a test
abbrev pub bits_where : (Moment → Bool) → List Moment → ℕ
bits_where test moments = sum_by (λ (m : Moment). m.bits) (filter test moments)

-- something comes before a time, and something ends by it
abbrev pub comes_before : ℕ → Moment → Bool
comes_before time m = m.comes && nat_lt m.at.0 time

abbrev pub comes_by : ℕ → Moment → Bool
comes_by time m = m.comes && nat_le m.at.0 time

abbrev pub ends_by : ℕ → Moment → Bool
ends_by time m = not m.comes && nat_le m.at.0 time

-- at no time more has ended at a port in a class than came there before
abbrev pub IsBalanced : List Moment → Type 0
IsBalanced moments = (port class time : ℕ) → bits_where (ends_by time) (filter (is_of port class) moments)
    ≤ bits_where (comes_before time) (filter (is_of port class) moments)

-- the same moments in their order
pub record AreReordered (moments ordered : List Moment) : Type 0 where
  pub same : IsPermutation moments ordered
  pub in_order : IsNonDecreasingBy order_of ordered

-- the moments of a run, frame by frame
pub record AreByFrame (network : DeclaredNetwork) (run : List Travel) (moments : List Moment) : Type 0 where
  pub all : moments ≡ moments_in network run
  pub inside : All (IsInside (length network.topology.ports)) moments
  pub few : length moments ≤ MAX_MOMENTS

-- moments in their order, at ports of which there are so many
pub record AreOrdered (ports : ℕ) (moments : List Moment) : Type 0 where
  pub in_order : IsNonDecreasingBy order_of moments
  pub inside : All (IsInside ports) moments
  pub balanced : IsBalanced moments
  pub few : length moments ≤ MAX_MOMENTS

-- the moments of a run, in their order
pub record AreMomentsOf (network : DeclaredNetwork) (run : List Travel) (moments : List Moment) : Type 0 where
  pub same : IsPermutation (moments_in network run) moments
  pub ordered : AreOrdered (length network.topology.ports) moments
