use Rattle.std.specs.Prelude.{◌≡◌, ◌↔◌, ℕ, ◌+◌, ◌*◌, ◌<◌, ◌≤◌, ℤ, pos, ◌-ℤ◌, ◌<ℤ◌, ◌≤ℤ◌, List, [], ◌∷◌, ◌++◌, length}
use Rattle.std.specs.Prelude.{map, filter, fold, slice_index, ◌==◌}
use Rattle.ats_num.specs.Wire.{bits_of}
use Rattle.ats_num.specs.declared.time.TheConstants.{PS_PER_SECOND}
use Rattle.ats_bucket.specs.Conforming.{Frame, bits_between, time_between}
use Rattle.ats_bucket.specs.Scheduler.{empty_after, first_empty}
use Rattle.ats_streams.specs.declared.traffic.Declared.{Declared}
use Rattle.ats_topology.specs.Port.{port_at}
use Rattle.ats_network.specs.Network.{DeclaredNetwork}
use Rattle.ats_network.specs.Senders.{sender_at}
use Rattle.ats_trace.specs.Talker.{frame_of, frames_of, read_by, talker_of}
use Rattle.ats_trace.specs.declared.journey.Release.{Release}
use Rattle.ats_conform.specs.Metering.{ExceedsFrom, Names, counted, excess}
use Rattle.ats_conform.specs.declared.meter.Metered.{Metered}
use Rattle.ats_gen.specs.Made.{empty_by}

-- What meters and buckets come to, of any frames, rates and bursts, part by part.

-- a meter names the frame from which on a bucket is exceeded by most bits, and the first of these, by the number that
-- the frame has. Refuses the first frame from which on it is exceeded at all
pub record NamingIsMeant : Type 0 where
  pub names : (rate burst : ℕ) (earlier : List Metered) (next : Metered) (frame : ℕ)
      → Names rate burst earlier next frame
      ↔ ((place : ℕ) × (slice_index (map (λ (m : Metered). m.frame) (earlier ++ next ∷ [])) place ≡ frame)
      × ExceedsFrom rate burst (counted (earlier ++ next ∷ [])) (length earlier) place)
  pub exceeds : (rate burst : ℕ) (frames : List Frame) (j i : ℕ) → ExceedsFrom rate burst frames j i
      ↔ ((i ≤ j) × (pos 0 <ℤ excess rate burst frames i j)
      × ((k : ℕ) → k ≤ j → excess rate burst frames k j ≤ℤ excess rate burst frames i j)
      × ((k : ℕ) → k < i → excess rate burst frames k j <ℤ excess rate burst frames i j))
  pub by_how_much : (rate burst : ℕ) (frames : List Frame) (i j : ℕ) → excess rate burst frames i j
      ≡ pos (PS_PER_SECOND * bits_between frames i j)
      -ℤ pos (rate * time_between frames i j + PS_PER_SECOND * burst)
  pub as_counted : (frames : List Metered)
      → counted frames ≡ map (λ (m : Metered). record { at = m.at.0; bits = m.bits }) frames

-- the bucket of a stream for which releases are made is full at time 0, and each of its frames is taken out of it
abbrev pub BucketsAreMeant : Type 0
BucketsAreMeant = (declared : Declared) (frames : List Frame) → empty_by declared frames
    ≡ fold (λ (empty : ℤ) (f : Frame). empty_after declared.rate declared.burst_bits empty f.at f.bits)
    (first_empty declared.burst_bits) frames

-- whose releases are counted, at which times and with how many bits: those of the sender, at their own times or at
-- those that a clock shows, with all their bits on the wire; and the talker is the node that the first port leaves
pub record TalkersAreMeant : Type 0 where
  pub bits : (octets : ℕ) → bits_of octets ≡ 8 * (octets + 20)
  pub frame : (r : Release) → frame_of r ≡ record { at = r.at.0; bits = 8 * (r.octets + 20) }
  pub frames : (i : ℕ) (releases : List Release)
      → frames_of i releases ≡ map frame_of (filter (λ (r : Release). r.sender == i) releases)
  pub shown : (shows : ℕ → ℕ) (releases : List Release)
      → read_by shows releases ≡ map (λ (r : Release). record r { at = record { 0 = shows r.at.0 } }) releases
  pub talker : (network : DeclaredNetwork) (i p : ℕ) (path : List ℕ) → (sender_at network i).ports ≡ p ∷ path
      → talker_of network i ≡ (port_at network.topology.ports p).from

pub record MeteringIsMeant : Type 0 where
  pub talkers : TalkersAreMeant
  pub naming : NamingIsMeant
  pub buckets : BucketsAreMeant
