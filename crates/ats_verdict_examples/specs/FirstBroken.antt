use Rattle.std.specs.Prelude.{◌↔◌, ℕ, ◌+◌, ◌<◌, List, [], ◌∷◌, length, take}
use Rattle.ats_network.specs.Network.{DeclaredNetwork}
use Rattle.ats_network.specs.Sender.{Sender}
use Rattle.ats_network.specs.Senders.{sender_at}
use Rattle.ats_trace.specs.Releases.{AreReleases}
use Rattle.ats_trace.specs.Talker.{IsDeclaredSize}
use Rattle.ats_trace.specs.declared.journey.Release.{Release}
use Rattle.ats_conform.specs.Broken.{Breaks}
use Rattle.ats_conform.specs.Metering.{Names}
use Rattle.ats_conform.specs.Releases.{AllKeepBuckets, metered_at, metered_from, release_at}
use Rattle.ats_conform.specs.declared.broken.Broken.TheVariants.{Size, Bucket}
use Rattle.ats_examples.specs.Networks.{below, fork, line}
use Rattle.ats_verdict_examples.specs.Networks.{release}

-- Which frame breaks what its sender declares, and since when a bucket is exceeded.

-- by the releases before this frame every node keeps its buckets, and by those up to it some node does not
abbrev pub IsFirst : DeclaredNetwork → List Release → ℕ → Type 0
IsFirst network releases frame =
    (frame < length releases) × AllKeepBuckets network (take frame releases)
    × (¬ AllKeepBuckets network (take (frame + 1) releases))

-- the sender of a release
abbrev pub sender_of : DeclaredNetwork → Release → Sender
sender_of network r = sender_at network r.sender

-- what is named of any releases to any network, both ways: the first frame, whichever it breaks; for its size where
-- that is not declared, else for its bucket, since the frame that is worst by the rate and the burst of its own sender.
-- Refuses sizes that are judged before all buckets, or after them, and another sender's rate or burst
pub record BrokenAreMeant : Type 0 where
  pub size : (network : DeclaredNetwork) (releases : List Release) (frame : ℕ)
      → Breaks network releases (Size frame)
      ↔ (IsFirst network releases frame × (¬ IsDeclaredSize network (release_at releases frame)))
  pub bucket : (network : DeclaredNetwork) (releases : List Release) (since frame : ℕ)
      → Breaks network releases (Bucket since frame)
      ↔ (IsFirst network releases frame × IsDeclaredSize network (release_at releases frame)
      × Names (sender_of network (release_at releases frame)).rate
      (sender_of network (release_at releases frame)).burst_bits
      (metered_from (release_at releases frame).sender 0 (take frame releases))
      (metered_at frame (release_at releases frame)) since)

-- of the faster of two streams a small frame, one of 1522 octets when its rate of 500 Mb/s has given 1000 bits, and a
-- picosecond later one of a size that the other stream does not declare. From the second frame on the third is 960 bits
-- too much, and from the first on 632; by the 50 Mb/s of the other it would be 1532 from the first on
abbrev pub of_faster : List Release
of_faster = release 0 1 64 ∷ release 2000000 1 1522 ∷ release 2000001 1 100 ∷ []

-- the burst and a small frame at once, and later one that is too long
abbrev pub bucket_then_size : List Release
bucket_then_size = release 0 0 1522 ∷ release 0 0 64 ∷ release 9 0 1523 ∷ []

-- of one stream a frame that is too long, and behind it the burst of another and a small frame at once
abbrev pub size_then_bucket : List Release
size_then_bucket = release 0 1 1523 ∷ release 0 0 1522 ∷ release 0 0 64 ∷ []

-- each may be run. A bucket is exceeded since the frame that is worst by the stream's own rate, and whichever the first
-- frame breaks is named
pub record FirstBrokenIsNamed : Type 0 where
  pub faster_run : AreReleases below of_faster
  pub since_by_own : Breaks below of_faster (Bucket 1 2)
  pub not_by_other : ¬ Breaks below of_faster (Bucket 0 2)
  pub bucket_run : AreReleases line bucket_then_size
  pub bucket_first : Breaks line bucket_then_size (Bucket 0 1)
  pub not_size_first : ¬ Breaks line bucket_then_size (Size 2)
  pub size_run : AreReleases fork size_then_bucket
  pub size_first : Breaks fork size_then_bucket (Size 0)
  pub not_bucket_first : ¬ Breaks fork size_then_bucket (Bucket 1 2)
