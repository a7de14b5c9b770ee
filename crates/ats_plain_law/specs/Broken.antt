use Rattle.std.specs.Prelude.{◌↔◌, ℕ, ◌+◌, ◌<◌, List, length, take}
use Rattle.ats_network.specs.Network.{DeclaredNetwork}
use Rattle.ats_trace.specs.Eligibility.{declared_by}
use Rattle.ats_trace.specs.Talker.{IsDeclaredSize}
use Rattle.ats_trace.specs.declared.journey.Release.{Release}
use Rattle.ats_conform.specs.Broken.{BreaksBucket, BreaksSize, IsFirstBroken}
use Rattle.ats_conform.specs.Metering.{Names}
use Rattle.ats_conform.specs.Releases.{AllKeepBuckets, metered_at, metered_from, release_at}

-- a frame is the first that breaks something where all nodes keep their buckets up to the one before it, and not with
-- it; it breaks a size where its octets are no declared ones, and else the bucket of its stream, with the frame since
-- which that has more than it may
pub record BrokenArePlain : Type 0 where
  pub first : (network : DeclaredNetwork) (releases : List Release) (frame : ℕ)
      → IsFirstBroken network releases frame
      ↔ ((frame < length releases) × AllKeepBuckets network (take frame releases)
      × (¬ AllKeepBuckets network (take (frame + 1) releases)))
  pub size : (network : DeclaredNetwork) (releases : List Release) (frame : ℕ) → BreaksSize network releases frame
      ↔ (IsFirstBroken network releases frame × (¬ IsDeclaredSize network (release_at releases frame)))
  pub bucket : (network : DeclaredNetwork) (releases : List Release) (since frame : ℕ)
      → BreaksBucket network releases since frame
      ↔ (IsFirstBroken network releases frame × IsDeclaredSize network (release_at releases frame)
      × Names (declared_by network (release_at releases frame).sender).rate
      (declared_by network (release_at releases frame).sender).burst_bits
      (metered_from (release_at releases frame).sender 0 (take frame releases))
      (metered_at frame (release_at releases frame)) since)
