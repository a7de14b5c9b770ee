use Rattle.std.specs.Prelude.{◌≡◌, ◌↔◌, ℕ, ◌+◌, ◌-◌, ◌*◌, ◌<◌, ◌≤◌, max, List, length, sum_by, All}
use Rattle.std.specs.List.Sorted.{IsNonDecreasing}
use Rattle.ats_num.specs.declared.time.TheConstants.{PS_PER_SECOND}
use Rattle.ats_bucket.specs.Conforming.{Frame, Conforms, times_of}
use Rattle.ats_conform.specs.MeterInside.{time_at, bits_before}
use Rattle.ats_fit.specs.declared.deficit.Deficit.{Deficit}

-- a bucket of this rate that is full
abbrev pub first_deficit : ℕ → Deficit
first_deficit rate = record { rate = rate; at = record { 0 = 0 }; lacks = 0; most = 0 }

-- what a bucket lacks once so many bits are taken, where the rate has given so much since it lacked that
abbrev pub lacks_after : ℕ → ℕ → ℕ → ℕ
lacks_after lacks gained bits = (lacks - gained) + PS_PER_SECOND * bits

-- after a frame of so many bits at this time
abbrev pub deficit_after : Deficit → ℕ → ℕ → Deficit
deficit_after d at bits =
    let lacks : ℕ = lacks_after d.lacks (d.rate * (at - d.at.0)) bits in
    record { rate = d.rate; at = record { 0 = at }; lacks = lacks; most = max d.most lacks }

-- no frames of a run have more bits together: 200,000 of 16,160
abbrev pub most_bits : ℕ
most_bits = 3232000000

-- the bits of all frames
abbrev pub bits_in : List Frame → ℕ
bits_in frames = sum_by (λ (f : Frame). f.bits) frames

-- a bucket that lacked nothing when the frame at place i came lacks no more than that after these frames, the last of
-- which came at this time; without differences
abbrev pub LacksSince : ℕ → List Frame → ℕ → ℕ → ℕ → Type 0
LacksSince rate frames at lacks i =
    rate * time_at frames i + PS_PER_SECOND * bits_in frames ≤ rate * at + lacks + PS_PER_SECOND * bits_before frames i

-- and no less
pub record IsReached (rate : ℕ) (frames : List Frame) (at lacks : ℕ) : Type 0 where
  pub place : ℕ
  pub within : place < length frames
  pub since : rate * time_at frames place + PS_PER_SECOND * bits_in frames
      ≡ rate * at + lacks + PS_PER_SECOND * bits_before frames place

-- what the bucket of a stream lacks after these frames, and the most that it lacked
pub record IsDeficit (frames : List Frame) (d : Deficit) : Type 0 where
  pub in_order : IsNonDecreasing (times_of frames)
  pub last : (later : ℕ) → All (λ (f : Frame). f.at ≤ later) frames → d.at.0 ≤ later
  pub upper : (i : ℕ) → i < length frames → LacksSince d.rate frames d.at.0 d.lacks i
  pub reached : 0 < d.lacks → IsReached d.rate frames d.at.0 d.lacks
  pub few : d.lacks ≤ PS_PER_SECOND * bits_in frames
  pub small : d.most ≤ PS_PER_SECOND * bits_in frames
  pub most : (burst : ℕ) → Conforms d.rate burst frames ↔ (d.most ≤ PS_PER_SECOND * burst)
