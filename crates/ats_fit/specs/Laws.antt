use Rattle.std.specs.Prelude.{◌≡◌, ◌↔◌, ℕ, ◌<◌, List, [], ◌∷◌}
use Rattle.std.specs.List.Sorted.{IsNonDecreasing}
use Rattle.ats_bucket.specs.Conforming.{Frame, Conforms, times_of}
use Rattle.ats_network.specs.Network.{DeclaredNetwork}
use Rattle.ats_trace.specs.declared.journey.Release.{Release}
use Rattle.ats_conform.specs.Releases.{AllKeepBuckets}
use Rattle.ats_fit.specs.Least.{IsLeastBurst}
use Rattle.ats_fit.specs.Measured.{AreMeasured}
use Rattle.ats_fit.specs.Over.{senders_over}
use Rattle.ats_fit.specs.declared.measured.Measured.{Measured}

-- frames in the order of their times have a least burst
abbrev pub LeastBurstExists : Type 0
LeastBurstExists = (rate : ℕ) (frames : List Frame) → IsNonDecreasing (times_of frames)
    → (burst : ℕ) × IsLeastBurst rate frames burst

-- and one alone
abbrev pub LeastBurstIsOne : Type 0
LeastBurstIsOne = (rate : ℕ) (frames : List Frame) (a b : ℕ) → IsLeastBurst rate frames a
    → IsLeastBurst rate frames b → a ≡ b

-- it is the burst with which they conform, while with no lesser one they do
abbrev pub LessBreaks : Type 0
LessBreaks = (rate : ℕ) (frames : List Frame) (burst : ℕ)
    → IsLeastBurst rate frames burst
    ↔ (Conforms rate burst frames × ((less : ℕ) → less < burst → ¬ Conforms rate less frames))

-- that of no frames is 0
abbrev pub NoFramesNeedNone : Type 0
NoFramesNeedNone = (rate : ℕ) → IsLeastBurst rate [] 0

-- that of one frame is its bits
abbrev pub OneFrameIsItsBits : Type 0
OneFrameIsItsBits = (rate : ℕ) (frame : Frame) → IsLeastBurst rate (frame ∷ []) frame.bits

-- there is one answer to what is measured of releases
abbrev pub MeasuredIsOne : Type 0
MeasuredIsOne = (network : DeclaredNetwork) (releases : List Release) (a b : List Measured)
    → AreMeasured network releases a → AreMeasured network releases b → a ≡ b

-- no sender is over what it declares exactly where every node keeps its buckets
abbrev pub NoneOverIsKept : Type 0
NoneOverIsKept = (network : DeclaredNetwork) (releases : List Release) (measured : List Measured)
    → AreMeasured network releases measured
    → (senders_over network measured ≡ 0) ↔ AllKeepBuckets network releases
