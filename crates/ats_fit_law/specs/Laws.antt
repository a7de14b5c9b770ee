use Rattle.std.specs.Prelude.{◌≡◌, ◌↔◌, ℕ, ◌<◌, ◌==◌, true, List, length, count_by, slice_index_or, All}
use Rattle.std.specs.Prelude.{AllPairs, Contains}
use Rattle.ats_bucket.specs.Conforming.{Conforms}
use Rattle.ats_network.specs.Network.{DeclaredNetwork, senders_of}
use Rattle.ats_network.specs.Senders.{sender_at}
use Rattle.ats_trace.specs.Eligibility.{declared_by}
use Rattle.ats_trace.specs.Talker.{frames_of, IsDeclaredSize}
use Rattle.ats_trace.specs.declared.journey.Release.{Release}
use Rattle.ats_fit.specs.Measured.{AreMeasured}
use Rattle.ats_fit.specs.Over.{is_over, senders_over}
use Rattle.ats_fit.specs.declared.measured.Measured.{Measured}

-- the releases of the sender with this number are as it declares: those of a stream conform to the declared rate and
-- burst, and each of a stream or a flow has a declared size
pub record SenderKeeps (network : DeclaredNetwork) (releases : List Release) (i : ℕ) : Type 0 where
  pub bucket : i < length network.streams
      → Conforms (declared_by network i).rate (declared_by network i).burst_bits (frames_of i releases)
  pub sizes : All (λ (r : Release). r.sender ≡ i → IsDeclaredSize network r) releases

-- what is measured of a sender is over what it declares exactly where its releases are not as it declares
abbrev pub OverIsNotKept : Type 0
OverIsNotKept = (network : DeclaredNetwork) (releases : List Release) (measured : List Measured) (i : ℕ) (d : Measured)
    → AreMeasured network releases measured → i < length (senders_of network)
    → (is_over (sender_at network i, slice_index_or measured i d) ≡ true) ↔ (¬ SenderKeeps network releases i)

-- these are the numbers of the senders whose releases are not as they declare, each once and in order
pub record AreNotKept (network : DeclaredNetwork) (releases : List Release) (numbers : List ℕ) : Type 0 where
  pub in_order : AllPairs (λ i j. i < j) numbers
  pub each : (i : ℕ)
      → Contains numbers i ↔ ((i < length (senders_of network)) × (¬ SenderKeeps network releases i))

-- and the number of senders that are over what they declare is the number of these
abbrev pub OverCounts : Type 0
OverCounts = (network : DeclaredNetwork) (releases : List Release) (measured : List Measured)
    → AreMeasured network releases measured
    → (numbers : List ℕ) × AreNotKept network releases numbers × (length numbers ≡ senders_over network measured)

-- the frames of a sender are all its releases, of declared sizes or not
abbrev pub FramesAreReleases : Type 0
FramesAreReleases = (network : DeclaredNetwork) (releases : List Release) (measured : List Measured) (i : ℕ)
    (d : Measured) → AreMeasured network releases measured → i < length (senders_of network)
    → (slice_index_or measured i d).frames ≡ count_by (λ (r : Release). r.sender == i) releases
