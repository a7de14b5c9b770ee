use Rattle.std.specs.Prelude.{ℕ, ◌+◌, ◌-◌, ◌*◌, ◌<◌, ◌≤◌, List, map, AllPairs}
use Rattle.std.specs.List.Sorted.{IsNonDecreasing, IsNonDecreasingBy}
use Rattle.ats_num.specs.declared.time.TheConstants.{PS_PER_SECOND}
use Rattle.ats_bucket.specs.Conforming.{Frame, Conforms, times_of}
use Rattle.ats_clock.specs.declared.clock.TheConstants.{MILLION}
use Rattle.ats_clock.specs.declared.committed.Committed.{Committed}
use Rattle.ats_clock.specs.Clock.{DeclaredClock, KeepsClock}
use Rattle.ats_clock.specs.Rates.{output_of, scheduler_for}

-- the frames conform to this rate and burst
abbrev pub ConformTo : Committed → List Frame → Type 0
ConformTo c frames = Conforms c.rate c.burst_bits frames

-- a frame with two times, as by two clocks
pub record TwiceTimed : Type 0 where
  pub first : ℕ
  pub second : ℕ
  pub bits : ℕ

-- the frames at their first times, and at their second ones
abbrev pub at_first : List TwiceTimed → List Frame
at_first frames = map (λ (f : TwiceTimed). record { at = f.first; bits = f.bits }) frames

abbrev pub at_second : List TwiceTimed → List Frame
at_second frames = map (λ (f : TwiceTimed). record { at = f.second; bits = f.bits }) frames

-- second times do not descend, and from each frame to each later one `a` times what the first time gains is at most `u`
-- times what the second one gains, and `v`
pub record AreRetimed (a u v : ℕ) (frames : List TwiceTimed) : Type 0 where
  pub in_order : IsNonDecreasingBy (λ (f : TwiceTimed). f.second) frames
  pub gains : AllPairs (λ (f g : TwiceTimed). a * (g.first - f.first) ≤ u * (g.second - f.second) + v) frames

-- this rate and this burst are enough for retimed frames
pub record AreEnough (a u v : ℕ) (before after : Committed) : Type 0 where
  pub positive : 1 ≤ a
  pub rate : before.rate * u ≤ after.rate * a
  pub burst : before.rate * v + a * PS_PER_SECOND * before.burst_bits ≤ a * PS_PER_SECOND * after.burst_bits

-- frames that conform at their first times conform at their second ones
abbrev pub RetimedConform : Type 0
RetimedConform = (a u v : ℕ) (before after : Committed) (frames : List TwiceTimed) → AreRetimed a u v frames
    → AreEnough a u v before after → ConformTo before (at_first frames) → ConformTo after (at_second frames)

-- the frames as a clock shows them
abbrev pub shown_frames : (ℕ → ℕ) → List Frame → List Frame
shown_frames shows frames = map (λ (f : Frame). record f { at = shows f.at }) frames

-- frames that conform in true time conform, as a clock shows them, to what its scheduler is to have
abbrev pub ShownConform : Type 0
ShownConform = (clock : DeclaredClock) (shows : ℕ → ℕ) (c : Committed) (frames : List Frame) → KeepsClock clock shows
    → clock.deviation_ppm < MILLION → ConformTo c frames → ConformTo (scheduler_for clock c) (shown_frames shows frames)

-- frames that conform as a clock shows them, as those of a node that sends by it, conform in true time to its output
abbrev pub SentByClockConform : Type 0
SentByClockConform = (clock : DeclaredClock) (shows : ℕ → ℕ) (c : Committed) (frames : List Frame)
    → KeepsClock clock shows → IsNonDecreasing (times_of frames) → ConformTo c (shown_frames shows frames)
    → ConformTo (output_of clock c) frames
