use Rattle.std.specs.Prelude.{ℕ, ◌+◌, ◌-◌, ◌*◌, ◌≤◌, Bool, ◌&&◌, nat_le, List, filter, sum_by}
use Rattle.std.specs.List.Sorted.{IsNonDecreasing}
use Rattle.ats_num.specs.declared.time.TheConstants.{PS_PER_SECOND}
use Rattle.ats_bucket.specs.Conforming.{Frame, times_of}

-- the frame's time is in the window from one time to another, both included
abbrev pub is_within : ℕ → ℕ → Frame → Bool
is_within from to frame = nat_le from frame.at && nat_le frame.at to

-- the bits of the frames in this window
abbrev pub bits_within : List Frame → ℕ → ℕ → ℕ
bits_within frames from to = sum_by (λ (f : Frame). f.bits) (filter (is_within from to) frames)

-- no window of time holds more bits than the rate, in bits per second, gives in its picoseconds and the burst
pub record KeepsWindows (rate burst : ℕ) (frames : List Frame) : Type 0 where
  pub within : (from to : ℕ) → from ≤ to
      → PS_PER_SECOND * bits_within frames from to ≤ rate * (to - from) + PS_PER_SECOND * burst

-- the frames conform to a token bucket of this rate and this burst, said by windows of time
pub record ConformsByWindows (rate burst : ℕ) (frames : List Frame) : Type 0 where
  pub in_order : IsNonDecreasing (times_of frames)
  pub windows : KeepsWindows rate burst frames
