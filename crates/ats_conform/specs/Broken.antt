use Rattle.std.specs.Prelude.{ℕ, ◌+◌, ◌<◌, List, length, take}
use Rattle.ats_num.specs.declared.failure.Failure.{Failure}
use Rattle.ats_num.specs.declared.failure.Failure.TheVariants.{Fault, NoMemory}
use Rattle.ats_network.specs.Network.{DeclaredNetwork}
use Rattle.ats_trace.specs.Eligibility.{declared_by}
use Rattle.ats_trace.specs.Talker.{IsDeclaredSize}
use Rattle.ats_trace.specs.declared.journey.Release.{Release}
use Rattle.ats_conform.specs.declared.broken.Broken.{Broken}
use Rattle.ats_conform.specs.declared.broken.Broken.TheVariants.{Size, Bucket}
use Rattle.ats_conform.specs.Metering.{Names}
use Rattle.ats_conform.specs.Releases.{AllKeepBuckets, release_at, metered_at, metered_from}

-- the frame with this number is the first by which some node does not keep its buckets
pub record IsFirstBroken (network : DeclaredNetwork) (releases : List Release) (frame : ℕ) : Type 0 where
  pub within : frame < length releases
  pub before : AllKeepBuckets network (take frame releases)
  pub broken : ¬ AllKeepBuckets network (take (frame + 1) releases)

-- and its octets are no declared size
pub record BreaksSize (network : DeclaredNetwork) (releases : List Release) (frame : ℕ) : Type 0 where
  pub first : IsFirstBroken network releases frame
  pub size : ¬ IsDeclaredSize network (release_at releases frame)

-- or they are, and its stream's meter names this frame for it
pub record BreaksBucket (network : DeclaredNetwork) (releases : List Release) (since frame : ℕ) : Type 0 where
  pub first : IsFirstBroken network releases frame
  pub size : IsDeclaredSize network (release_at releases frame)
  pub bucket : let sender = (release_at releases frame).sender in let declared = declared_by network sender in
      Names declared.rate declared.burst_bits (metered_from sender 0 (take frame releases))
      (metered_at frame (release_at releases frame)) since

-- how the first frame breaks what its sender declares
abbrev pub Breaks : DeclaredNetwork → List Release → Broken → Type 0
Breaks network releases (Size frame) = BreaksSize network releases frame
Breaks network releases (Bucket since frame) = BreaksBucket network releases since frame

-- a call failed: it gives that, unless memory ran out
abbrev pub BreaksOrFails : DeclaredNetwork → List Release → Failure Broken → Type 0
BreaksOrFails network releases NoMemory = Unit {0}
BreaksOrFails network releases (Fault broken) = Breaks network releases broken

-- a call failed: some node does not keep its buckets by these releases, unless memory ran out
abbrev pub AreBrokenOrFails : DeclaredNetwork → List Release → Failure Broken → Type 0
AreBrokenOrFails network releases NoMemory = Unit {0}
AreBrokenOrFails network releases (Fault broken) = ¬ AllKeepBuckets network releases
