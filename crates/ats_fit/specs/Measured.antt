use Rattle.std.specs.Prelude.{◌≡◌, ℕ, ◌<◌, ◌≤◌, ◌==◌, List, [], length, map, filter, slice_index_or, All, Contains}
use Rattle.std.specs.Prelude.{Option, Some, None}
use Rattle.ats_network.specs.Network.{DeclaredNetwork, senders_of}
use Rattle.ats_trace.specs.Eligibility.{declared_by}
use Rattle.ats_trace.specs.Talker.{frames_of}
use Rattle.ats_trace.specs.declared.journey.Release.{Release}
use Rattle.ats_fit.specs.Least.{IsLeastBurst}
use Rattle.ats_fit.specs.declared.measured.Measured.{Measured}
use Rattle.ats_fit.specs.declared.measured.Sizes.{Sizes}

-- the octets of a sender's releases, in order
abbrev pub octets_of : ℕ → List Release → List ℕ
octets_of i releases = map (λ (r : Release). r.octets) (filter (λ (r : Release). r.sender == i) releases)

-- the least and the greatest of these numbers
pub record AreEnds (octets : List ℕ) (sizes : Sizes) : Type 0 where
  pub least : Contains octets sizes.least
  pub none_less : All (λ n. sizes.least ≤ n) octets
  pub greatest : Contains octets sizes.greatest
  pub none_greater : All (λ n. n ≤ sizes.greatest) octets

-- or there are no numbers
abbrev pub AreSizesOf : List ℕ → Option Sizes → Type 0
AreSizesOf octets None = octets ≡ []
AreSizesOf octets (Some sizes) = AreEnds octets sizes

-- the least burst with which a stream's releases conform to its declared rate; of a flow there is none
abbrev pub IsBurstOf : DeclaredNetwork → List Release → ℕ → Option ℕ → Type 0
IsBurstOf network releases i None = length network.streams ≤ i
IsBurstOf network releases i (Some burst) =
    (i < length network.streams) × IsLeastBurst (declared_by network i).rate (frames_of i releases) burst

-- what is measured of the releases of the sender with this number
pub record IsMeasured (network : DeclaredNetwork) (releases : List Release) (i : ℕ) (measured : Measured) : Type 0 where
  pub frames : measured.frames ≡ length (frames_of i releases)
  pub sizes : AreSizesOf (octets_of i releases) measured.sizes
  pub burst : IsBurstOf network releases i measured.burst_bits

-- and of each sender, in their order
pub record AreMeasured (network : DeclaredNetwork) (releases : List Release) (measured : List Measured)
    : Type 0 where
  pub count : length measured ≡ length (senders_of network)
  pub each : (i : ℕ) (d : Measured) → i < length measured
      → IsMeasured network releases i (slice_index_or measured i d)
