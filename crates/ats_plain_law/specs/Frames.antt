use Rattle.std.specs.Prelude.{◌≡◌, ◌↔◌, ℕ, ◌+◌, ◌-◌, ◌*◌, ◌/◌, ◌<◌, ◌≤◌, List, length, map, sum_by, slice_index}
use Rattle.std.specs.Prelude.{slice_range}
use Rattle.std.specs.List.Sorted.{IsNonDecreasing}
use Rattle.ats_bucket.specs.Conforming.{Conforms, Frame, bits_between, time_between}
use Rattle.ats_num.specs.Division.{IsCeiling, ceiling}

-- the bits from one place to another are those of all frames in between, both ends included, and the time that from the
-- one frame to the other; frames conform where they come in order of time and, between any two of them, are no more
-- bits than the rate gives and the burst
pub record BetweenIsPlain : Type 0 where
  pub bits : (frames : List Frame) (i j : ℕ) → bits_between frames i j
      ≡ sum_by (λ (f : Frame). f.bits) (slice_range frames i (j + 1))
  pub time : (frames : List Frame) (i j : ℕ) → time_between frames i j
      ≡ slice_index (map (λ (f : Frame). f.at) frames) j - slice_index (map (λ (f : Frame). f.at) frames) i
  pub conforms : (rate burst : ℕ) (frames : List Frame) → Conforms rate burst frames
      ↔ (IsNonDecreasing (map (λ (f : Frame). f.at) frames)
      × ((i j : ℕ) → i ≤ j → j < length frames
      → 1000000000000 * bits_between frames i j ≤ rate * time_between frames i j + 1000000000000 * burst))

-- to round up is to take the least whole number of times a divisor that reaches what is divided
pub record RoundingIsPlain : Type 0 where
  pub is : (n d q : ℕ) → IsCeiling n d q ↔ ((n ≤ q * d) × ((k : ℕ) → n ≤ k * d → q ≤ k))
  pub computed : (n d : ℕ) → ceiling n d ≡ (n + (d - 1)) / d

pub record FramesArePlain : Type 0 where
  pub between : BetweenIsPlain
  pub rounding : RoundingIsPlain
