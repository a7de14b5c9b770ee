use Rattle.std.specs.Prelude.{◌≡◌, ◌↔◌, ℕ, ◌+◌, ◌-◌, ◌*◌, ◌/◌, ◌≤◌, max, List, ◌∷◌, [], All, Some, None}
use Rattle.ats_bucket.specs.Conforming.{Frame}
use Rattle.ats_streams.specs.declared.traffic.Declared.{Declared}
use Rattle.ats_lrq.specs.Spacing.{IsEligibility, IsSpaced, IsSpacedFrom, eligibility_time, free_from}
use Rattle.ats_lrq.specs.Judge.{AreSpaced, spacing_rule}
use Rattle.ats_lrq.specs.declared.last_frame.LastFrame.{LastFrame}

-- the distance from one frame to the next, at any rate in bits per second: 10^12 times the bits of the one before are
-- at most the rate times the picoseconds between them
pub record DistancesArePlain : Type 0 where
  pub spaced : (rate bits since at : ℕ) → IsSpaced rate bits since at
      ↔ ((since ≤ at) × (1000000000000 * bits ≤ rate * (at - since)))
  pub from_last : (rate : ℕ) (last : LastFrame) (at : ℕ) → IsSpacedFrom rate (Some last) at
      ↔ ((last.eligible.0 ≤ at) × (1000000000000 * last.bits ≤ rate * (at - last.eligible.0)))
  pub eligible : (rate : ℕ) (last : LastFrame) (group arrival at : ℕ)
      → IsEligibility rate (Some last) group arrival at
      ↔ ((arrival ≤ at) × (group ≤ at) × IsSpacedFrom rate (Some last) at
      × ((k : ℕ) → arrival ≤ k → group ≤ k → IsSpacedFrom rate (Some last) k → at ≤ k))

-- the same, computed: behind the last frame by the quotient of its bits and the rate, rounded up to a picosecond
pub record TimesArePlain : Type 0 where
  pub first : (rate group arrival : ℕ) → eligibility_time rate None group arrival ≡ max (max arrival group) 0
  pub later : (rate : ℕ) (last : LastFrame) (group arrival : ℕ) → eligibility_time rate (Some last) group arrival
      ≡ max (max arrival group) (last.eligible.0 + (1000000000000 * last.bits + (rate - 1)) / rate)
  pub free : (rate : ℕ) (last : LastFrame) → free_from rate (Some last)
      ≡ last.eligible.0 + (1000000000000 * last.bits + (rate - 1)) / rate

-- a talker is spaced where its frames have bits, and each keeps that distance from the one before it; of what it
-- declares the rate alone counts
pub record TalkersArePlain : Type 0 where
  pub none : (rate : ℕ) → AreSpaced rate []
  pub one : (rate : ℕ) (frame : Frame) → AreSpaced rate (frame ∷ [])
  pub more : (rate : ℕ) (frame later : Frame) (frames : List Frame) → AreSpaced rate (frame ∷ later ∷ frames)
      ↔ (IsSpaced rate frame.bits frame.at later.at × AreSpaced rate (later ∷ frames))
  pub keeps : (declared : Declared) (frames : List Frame) → spacing_rule declared frames
      ↔ (All (λ (f : Frame). 1 ≤ f.bits) frames × AreSpaced declared.rate frames)

pub record SpacingIsPlain : Type 0 where
  pub distances : DistancesArePlain
  pub times : TimesArePlain
  pub talkers : TalkersArePlain
