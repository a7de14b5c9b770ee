use Rattle.std.specs.Prelude.{ℕ, ◌+◌, ◌-◌, ◌*◌, ◌≤◌, Bool, ◌&&◌, nat_le, List, map, filter, sum_by, All}
use Rattle.ats_num.specs.declared.time.TheConstants.{PS_PER_SECOND}
use Rattle.ats_bucket.specs.Conforming.{Frame}
use Rattle.ats_clock.specs.declared.committed.Committed.{Committed}
use Rattle.ats_clock.specs.Clock.{DeclaredClock, KeepsClock}
use Rattle.ats_clock.specs.Rates.{output_of}
use Rattle.ats_clock_law.specs.Retiming.{ConformTo}
use Rattle.ats_clock_law.specs.TrueTime.{IsTrueEligibility}

-- a frame at a hop that goes by a clock: when it had arrived there, the time that it was told, when it was eligible,
-- and its bits. All times are true ones but the told one
pub record Told : Type 0 where
  pub came : ℕ
  pub told : ℕ
  pub eligible : ℕ
  pub bits : ℕ

-- the frames at their told times
abbrev pub at_told : List Told → List Frame
at_told frames = map (λ (f : Told). record { at = f.told; bits = f.bits }) frames

-- frames of one sender that were told times by this clock, at which they conform to this rate and burst
pub record WereTold (clock : DeclaredClock) (shows : ℕ → ℕ) (c : Committed) (frames : List Told) : Type 0 where
  pub keeps : KeepsClock clock shows
  pub told : All (λ (f : Told). shows f.came ≤ f.told) frames
  pub eligible : All (λ (f : Told). IsTrueEligibility shows f.came f.told f.eligible) frames
  pub conformed : ConformTo c (at_told frames)

-- the frame was eligible no earlier than this true time, and was told no later time than this one of the clock
abbrev pub is_counted : ℕ → ℕ → Told → Bool
is_counted from last f = nat_le from f.eligible && nat_le f.told last

-- the bits of these
abbrev pub bits_counted : List Told → ℕ → ℕ → ℕ
bits_counted frames from last = sum_by (λ (f : Told). f.bits) (filter (is_counted from last) frames)

-- what goes before a frame at a port that chooses by its clock has been eligible since the port began to send, and was
-- told no later time than that frame: of one sender it is no more than the clock's output gives until that frame is
-- eligible
abbrev pub CountedKeepBucket : Type 0
CountedKeepBucket = (clock : DeclaredClock) (shows : ℕ → ℕ) (c : Committed) (frames : List Told)
    (from last eligible : ℕ) → WereTold clock shows c frames → from ≤ eligible → last ≤ shows eligible
    → PS_PER_SECOND * bits_counted frames from last
    ≤ (output_of clock c).rate * (eligible - from) + PS_PER_SECOND * (output_of clock c).burst_bits
