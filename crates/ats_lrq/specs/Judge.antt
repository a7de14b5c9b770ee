use Rattle.std.specs.Prelude.{ℕ, ◌≤◌, List, [], ◌∷◌, All}
use Rattle.ats_bucket.specs.Conforming.{Frame}
use Rattle.ats_streams.specs.declared.traffic.Declared.{Declared}
use Rattle.ats_group.specs.Judge.{Judge}
use Rattle.ats_lrq.specs.Spacing.{IsSpaced}
use Rattle.ats_lrq.specs.Fold.{first, verdicts_of}

-- groups judge frames as length-rate-quotient regulators do; what a member declares of its burst is not read
abbrev pub lrq_judge : Judge
lrq_judge declared residence_ns offers = verdicts_of declared residence_ns first offers

-- each frame keeps its distance from the one before it
abbrev pub AreSpaced : ℕ → List Frame → Type 0
AreSpaced rate [] = Unit {0}
AreSpaced rate (frame ∷ []) = Unit {0}
AreSpaced rate (frame ∷ later ∷ frames) =
    IsSpaced rate frame.bits frame.at later.at × AreSpaced rate (later ∷ frames)

-- frames have bits, and each keeps its distance from the one before it
pub record KeepsSpacing (rate : ℕ) (frames : List Frame) : Type 0 where
  pub bits : All (λ (f : Frame). 1 ≤ f.bits) frames
  pub spaced : AreSpaced rate frames

-- the rule of a spaced talker: of its successive frames, which have bits, the rate gives the bits of the one before the
-- next comes; the burst is not read
abbrev pub spacing_rule : Declared → List Frame → Type 0
spacing_rule declared frames = KeepsSpacing declared.rate frames
