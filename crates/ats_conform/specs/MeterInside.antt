use Rattle.std.specs.Prelude.{◌≡◌, ℕ, ◌+◌, ◌*◌, ◌<◌, ◌≤◌, List, [], length, map, take, sum_by, slice_index, All}
use Rattle.std.specs.Prelude.{Option, Some, None}
use Rattle.ats_num.specs.declared.time.TheConstants.{PS_PER_SECOND}
use Rattle.ats_num.specs.declared.wire.TheConstants.{MAX_WIRE_BITS}
use Rattle.ats_bucket.specs.Conforming.{Frame, Conforms, times_of}
use Rattle.ats_conform.specs.declared.meter.Metered.{Metered}
use Rattle.ats_conform.specs.declared.start.Start.{Start}
use Rattle.ats_conform.specs.Metering.{counted}

-- the time of the frame at a place
abbrev pub time_at : List Frame → ℕ → ℕ
time_at frames i = slice_index (times_of frames) i

-- the bits of the frames before a place
abbrev pub bits_before : List Frame → ℕ → ℕ
bits_before frames i = sum_by (λ (f : Frame). f.bits) (take i frames)

-- from the start at place k on no more is sent beyond the bucket than from the one at place i on; compared without
-- differences
abbrev pub IsNoWorse : ℕ → List Frame → ℕ → ℕ → Type 0
IsNoWorse rate frames k i =
    rate * time_at frames k + PS_PER_SECOND * bits_before frames i
    ≤ rate * time_at frames i + PS_PER_SECOND * bits_before frames k

-- and less
abbrev pub IsBetter : ℕ → List Frame → ℕ → ℕ → Type 0
IsBetter rate frames k i =
    rate * time_at frames k + PS_PER_SECOND * bits_before frames i
    < rate * time_at frames i + PS_PER_SECOND * bits_before frames k

-- of these frames the one at place i is the worst start, and the first that is as bad
pub record IsWorstPlace (rate : ℕ) (frames : List Frame) (i : ℕ) : Type 0 where
  pub within : i < length frames
  pub greatest : (k : ℕ) → k < length frames → IsNoWorse rate frames k i
  pub earliest : (k : ℕ) → k < i → IsBetter rate frames k i

-- this is that start
pub record IsWorst (rate : ℕ) (taken : List Metered) (start : Start) : Type 0 where
  pub place : ℕ
  pub number : slice_index (map (λ (m : Metered). m.frame) taken) place ≡ start.frame
  pub time : time_at (counted taken) place ≡ start.at.0
  pub bits : bits_before (counted taken) place ≡ start.before
  pub worst : IsWorstPlace rate (counted taken) place

-- or there is no frame
abbrev pub IsWorstOf : ℕ → List Metered → Option Start → Type 0
IsWorstOf rate taken None = taken ≡ []
IsWorstOf rate taken (Some start) = IsWorst rate taken start

-- the frames that a meter took conform, and of them it keeps the sum of their bits and the worst start
pub record IsKept (rate burst : ℕ) (taken : List Metered) (total : ℕ) (start : Option Start) : Type 0 where
  pub small : All (λ (m : Metered). m.bits ≤ MAX_WIRE_BITS) taken
  pub conforms : Conforms rate burst (counted taken)
  pub sent : sum_by (λ (m : Metered). m.bits) taken ≡ total
  pub worst : IsWorstOf rate taken start
