use Rattle.std.specs.Prelude.{◌≡◌, ℕ, ◌<◌, List, length, take, All, slice_index_or}
use Rattle.ats_network.specs.Network.{DeclaredNetwork}
use Rattle.ats_bucket.specs.Conforming.{Conforms}
use Rattle.ats_trace.specs.Eligibility.{declared_by}
use Rattle.ats_trace.specs.Talker.{IsDeclaredSize}
use Rattle.ats_trace.specs.declared.journey.Release.{Release}
use Rattle.ats_conform.specs.Metering.{Metering, counted}
use Rattle.ats_conform.specs.Releases.{metered_from}

-- the meter of a stream after the first n releases: it has taken the stream's frames among them
abbrev pub meter_after : DeclaredNetwork → List Release → ℕ → ℕ → Metering
meter_after network releases n i = record {
  rate = (declared_by network i).rate;
  burst = (declared_by network i).burst_bits;
  taken = metered_from i 0 (take n releases);
}

-- there is one such meter for each stream
pub record AreMeters (network : DeclaredNetwork) (releases : List Release) (n : ℕ) (meters : List Metering)
    : Type 0 where
  pub count : length meters ≡ length network.streams
  pub each : (i : ℕ) (d : Metering) → i < length meters → slice_index_or meters i d ≡ meter_after network releases n i

-- the first n releases have declared sizes, and those of each stream conform
pub record KeepSoFar (network : DeclaredNetwork) (releases : List Release) (n : ℕ) : Type 0 where
  pub sizes : All (IsDeclaredSize network) (take n releases)
  pub streams : (i : ℕ) → i < length network.streams
      → Conforms (declared_by network i).rate (declared_by network i).burst_bits
      (counted (metered_from i 0 (take n releases)))
