use Rattle.std.specs.Prelude.{ℕ, ◌+◌, ◌-◌, ◌*◌, ◌<◌, ◌≤◌, List, length, map, sum_by, slice_index, slice_range}
use Rattle.std.specs.List.Sorted.{IsNonDecreasing}
use Rattle.ats_num.specs.declared.time.TheConstants.{PS_PER_SECOND}

-- a frame as a token bucket counts it: a time in picoseconds, and its wire bits
pub record Frame : Type 0 where
  pub at : ℕ
  pub bits : ℕ

-- the times of the frames, in order
abbrev pub times_of : List Frame → List ℕ
times_of frames = map (λ (f : Frame). f.at) frames

-- the bits of the frames at the places i to j, both included
abbrev pub bits_between : List Frame → ℕ → ℕ → ℕ
bits_between frames i j = sum_by (λ (f : Frame). f.bits) (slice_range frames i (j + 1))

-- the picoseconds from the frame at place i to the one at place j
abbrev pub time_between : List Frame → ℕ → ℕ → ℕ
time_between frames i j = slice_index (times_of frames) j - slice_index (times_of frames) i

-- the frames conform to a token bucket of this rate, in bits per second, and this burst, in bits: from each frame to
-- itself and to each later one there are no more bits than the rate gives in that time and the burst
pub record Conforms (rate burst : ℕ) (frames : List Frame) : Type 0 where
  pub in_order : IsNonDecreasing (times_of frames)
  pub within : (i j : ℕ) → i ≤ j → j < length frames
      → PS_PER_SECOND * bits_between frames i j ≤ rate * time_between frames i j + PS_PER_SECOND * burst
