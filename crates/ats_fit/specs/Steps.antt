use Rattle.std.specs.Prelude.{◌≡◌, ℕ, ◌<◌, ◌≤◌, ◌==◌, min, max, nat_lt, List, [], length, map, filter, take}
use Rattle.std.specs.Prelude.{slice_index_or, All, Option, Some, None, if◌then◌else◌}
use Rattle.ats_num.specs.Wire.{IsFrameSize}
use Rattle.ats_network.specs.Network.{DeclaredNetwork, senders_of}
use Rattle.ats_trace.specs.Eligibility.{declared_by}
use Rattle.ats_trace.specs.Talker.{frame_of}
use Rattle.ats_trace.specs.declared.journey.Release.{Release}
use Rattle.ats_trace.specs.declared.run.TheConstants.{MAX_FRAMES}
use Rattle.ats_fit.specs.Deficit.{IsDeficit}
use Rattle.ats_fit.specs.Least.{IsLeastBurst}
use Rattle.ats_fit.specs.Measured.{AreSizesOf}
use Rattle.ats_fit.specs.declared.deficit.Deficit.{Deficit}
use Rattle.ats_fit.specs.declared.measured.Measured.{Measured}
use Rattle.ats_fit.specs.declared.measured.Sizes.{Sizes}

-- the least and the greatest octets with one frame more
abbrev pub sizes_with : Option Sizes → ℕ → Sizes
sizes_with None octets = record { least = octets; greatest = octets }
sizes_with (Some sizes) octets = record { least = min sizes.least octets; greatest = max sizes.greatest octets }

-- what a gauge is: a rate in bits per second, where it is a stream's, and the releases that it took
pub record Gauging : Type 0 where
  pub rate : Option ℕ
  pub taken : List Release

-- the octets of releases
abbrev pub octets_in : List Release → List ℕ
octets_in taken = map (λ (r : Release). r.octets) taken

-- what the bucket of a stream with these releases lacks; a flow has none
abbrev pub IsDeficitOf : List Release → Option Deficit → Type 0
IsDeficitOf taken None = Unit {0}
IsDeficitOf taken (Some deficit) = IsDeficit (map frame_of taken) deficit

-- what a gauge keeps of the releases that it took
pub record IsGauged (taken : List Release) (frames : ℕ) (ends : Option Sizes) (lack : Option Deficit) : Type 0 where
  pub few : length taken ≤ MAX_FRAMES
  pub count : frames ≡ length taken
  pub octets : All (λ (r : Release). IsFrameSize r.octets) taken
  pub sizes : AreSizesOf (octets_in taken) ends
  pub deficit : IsDeficitOf taken lack

-- the least burst with which these releases conform to a rate, where there is one
abbrev pub IsBurstBy : Option ℕ → List Release → Option ℕ → Type 0
IsBurstBy None taken None = Unit {0}
IsBurstBy None taken (Some burst) = ⊥
IsBurstBy (Some rate) taken None = ⊥
IsBurstBy (Some rate) taken (Some burst) = IsLeastBurst rate (map frame_of taken) burst

-- what a gauge tells
pub record IsTold (g : Gauging) (measured : Measured) : Type 0 where
  pub frames : measured.frames ≡ length g.taken
  pub sizes : AreSizesOf (octets_in g.taken) measured.sizes
  pub burst : IsBurstBy g.rate g.taken measured.burst_bits

-- and each of them, in order
pub record AreTold (gauges : List Gauging) (measured : List Measured) : Type 0 where
  pub count : length measured ≡ length gauges
  pub each : (i : ℕ) (g : Gauging) (d : Measured) → i < length gauges
      → IsTold (slice_index_or gauges i g) (slice_index_or measured i d)

-- the rate of a sender, where it is a stream
abbrev pub rate_of : DeclaredNetwork → ℕ → Option ℕ
rate_of network i = if nat_lt i (length network.streams) then Some (declared_by network i).rate else None

-- the gauge of a sender that has taken none
abbrev pub first_gauge : DeclaredNetwork → ℕ → Gauging
first_gauge network i = record { rate = rate_of network i; taken = [] }

-- there is one such gauge for each sender
pub record AreFirst (network : DeclaredNetwork) (gauges : List Gauging) : Type 0 where
  pub count : length gauges ≡ length (senders_of network)
  pub each : (i : ℕ) (d : Gauging) → i < length gauges → slice_index_or gauges i d ≡ first_gauge network i

-- the gauge of a sender after the first n releases: it has taken those of the sender among them
abbrev pub gauge_after : DeclaredNetwork → List Release → ℕ → ℕ → Gauging
gauge_after network releases n i = record {
  rate = rate_of network i;
  taken = filter (λ (r : Release). r.sender == i) (take n releases);
}

-- and those of all senders
pub record AreGauges (network : DeclaredNetwork) (releases : List Release) (n : ℕ) (gauges : List Gauging)
    : Type 0 where
  pub count : length gauges ≡ length (senders_of network)
  pub each : (i : ℕ) (d : Gauging) → i < length gauges → slice_index_or gauges i d ≡ gauge_after network releases n i
