use Rattle.std.specs.Prelude.{◌≡◌, ◌↔◌, ℕ, ◌<◌, ◌≤◌, ◌==◌, List, [], length, map, filter, slice_index_or}
use Rattle.std.specs.Prelude.{All, Contains, Some, None}
use Rattle.ats_bucket.specs.Conforming.{Conforms, Frame}
use Rattle.ats_network.specs.Network.{DeclaredNetwork, senders_of}
use Rattle.ats_network.specs.Senders.{sender_at}
use Rattle.ats_trace.specs.Talker.{frame_of}
use Rattle.ats_trace.specs.declared.journey.Release.{Release}
use Rattle.ats_fit.specs.Least.{IsLeastBurst}
use Rattle.ats_fit.specs.Measured.{AreMeasured, AreSizesOf, IsBurstOf, IsMeasured}
use Rattle.ats_fit.specs.declared.measured.Measured.{Measured}

-- What is measured of any releases of any network: each part of it is written out.

-- the releases of the sender with a number
abbrev pub releases_of : ℕ → List Release → List Release
releases_of i releases = filter (λ (r : Release). r.sender == i) releases

-- of a sender: how many they are; the least and the greatest of their octets, each of which is that of one of them,
-- and none where there is none; and of a stream, and of no flow, the least burst at the rate that it declares
pub record EachIsMeasured : Type 0 where
  pub each : (network : DeclaredNetwork) (releases : List Release) (measured : List Measured)
      → AreMeasured network releases measured
      ↔ ((length measured ≡ length (senders_of network))
      × ((i : ℕ) (d : Measured) → i < length measured
      → IsMeasured network releases i (slice_index_or measured i d)))
  pub parts : (network : DeclaredNetwork) (releases : List Release) (i : ℕ) (m : Measured)
      → IsMeasured network releases i m
      ↔ ((m.frames ≡ length (map frame_of (releases_of i releases)))
      × AreSizesOf (map (λ (r : Release). r.octets) (releases_of i releases)) m.sizes
      × IsBurstOf network releases i m.burst_bits)
  pub no_sizes : (octets : List ℕ) → AreSizesOf octets None ↔ (octets ≡ [])
  pub sizes : (octets : List ℕ) (least greatest : ℕ)
      → AreSizesOf octets (Some (record { least = least; greatest = greatest }))
      ↔ (Contains octets least × All (λ n. least ≤ n) octets × Contains octets greatest
      × All (λ n. n ≤ greatest) octets)
  pub flow : (network : DeclaredNetwork) (releases : List Release) (i : ℕ)
      → IsBurstOf network releases i None ↔ (length network.streams ≤ i)
  pub stream : (network : DeclaredNetwork) (releases : List Release) (i burst : ℕ)
      → IsBurstOf network releases i (Some burst)
      ↔ ((i < length network.streams)
      × IsLeastBurst (sender_at network i).rate (map frame_of (releases_of i releases)) burst)
  pub least : (rate : ℕ) (frames : List Frame) (burst : ℕ) → IsLeastBurst rate frames burst
      ↔ (Conforms rate burst frames × ((other : ℕ) → Conforms rate other frames → burst ≤ other))
