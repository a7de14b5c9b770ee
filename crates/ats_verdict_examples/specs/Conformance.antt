use Rattle.std.specs.Prelude.{ℕ, List, [], ◌∷◌, codes, None}
use Rattle.ats_streams.specs.Stream.{declared_stream}
use Rattle.ats_network.specs.Network.{DeclaredNetwork, declared_network}
use Rattle.ats_trace.specs.Releases.{AreReleases}
use Rattle.ats_trace.specs.declared.journey.Release.{Release}
use Rattle.ats_conform.specs.Broken.{Breaks}
use Rattle.ats_conform.specs.Releases.{AllKeepBuckets}
use Rattle.ats_conform.specs.declared.broken.Broken.TheVariants.{Size, Bucket}
use Rattle.ats_examples.specs.Networks.{line, line_and_flow, fork}
use Rattle.ats_verdict_examples.specs.Networks.{release}

-- Releases of the line's stream that keep its bucket, and some that break it.

-- a small frame, long after it one of 1522 octets, which is the burst, and at this time a small one. The rate gives its
-- bits in 6720000 ps
abbrev pub behind_the_burst : ℕ → List Release
behind_the_burst at = release 0 0 64 ∷ release 100000000 0 1522 ∷ release at 0 64 ∷ []

-- the same where the rate gives just the bits of the first frame until the second, so that from either on the third is
-- as much too early
abbrev pub from_either : List Release
from_either = release 0 0 64 ∷ release 6720000 0 1522 ∷ release 13439999 0 64 ∷ []

-- a small frame, and long after it two of 1522 octets at once: from either on the third is too early, and by most bits
-- from the second on
abbrev pub over_from_both : List Release
over_from_both = release 0 0 64 ∷ release 100000000 0 1522 ∷ release 100000000 0 1522 ∷ []

-- the second frame is an octet longer than declared
abbrev pub too_long : List Release
too_long = release 0 0 64 ∷ release 100000000 0 1523 ∷ []

-- both streams of the fork send a frame that is too long, the one of the greater number first
abbrev pub both_too_long : List Release
both_too_long = release 0 1 1523 ∷ release 0 0 1523 ∷ []

-- of two streams the second sends the burst and, 1 ps too early, a small frame, each behind a frame of the first
abbrev pub in_turn : List Release
in_turn = release 0 0 64 ∷ release 0 1 1522 ∷ release 1 0 64 ∷ release 6719999 1 64 ∷ []

-- two of the longest frames of a flow at once, and one that is an octet longer
abbrev pub flow_burst : List Release
flow_burst = release 0 1 1522 ∷ release 0 1 1522 ∷ []

abbrev pub long_of_flow : List Release
long_of_flow = release 0 1 1523 ∷ []

-- the line, whose stream declares 65 octets or more, and a frame that is an octet shorter
abbrev pub from_65 : DeclaredNetwork
from_65 = declared_network line.topology
    (declared_stream (codes "a") (0 ∷ 2 ∷ []) (6 ∷ 6 ∷ []) 100000000 12336 65 1522 1000000 None ∷ []) []

abbrev pub too_short : List Release
too_short = release 0 0 64 ∷ []

-- each may be run. By the first every node keeps its buckets. By the next the last frame, 1 ps earlier, exceeds the
-- bucket from frame 1 on, and by those after it from frame 0; by the next from both, and most from frame 1 on; by the
-- next ones frame 1 has no declared size. Nothing else is named. Of two streams that break theirs, the one whose frame
-- is first is named, and frames are named by their numbers among all releases, not among those of their stream. A flow
-- may send frames at once, of declared sizes
pub record ConformanceIsMet : Type 0 where
  pub kept_run : AreReleases line (behind_the_burst 106720000)
  pub kept : AllKeepBuckets line (behind_the_burst 106720000)
  pub broken_run : AreReleases line (behind_the_burst 106719999)
  pub broken : ¬ AllKeepBuckets line (behind_the_burst 106719999)
  pub since_second : Breaks line (behind_the_burst 106719999) (Bucket 1 2)
  pub not_since_first : ¬ Breaks line (behind_the_burst 106719999) (Bucket 0 2)
  pub since_first : Breaks line from_either (Bucket 0 2)
  pub not_since_second : ¬ Breaks line from_either (Bucket 1 2)
  pub since_most : Breaks line over_from_both (Bucket 1 2)
  pub not_since_any : ¬ Breaks line over_from_both (Bucket 0 2)
  pub long : Breaks line too_long (Size 1)
  pub long_breaks : ¬ AllKeepBuckets line too_long
  pub both_run : AreReleases fork both_too_long
  pub first_frame : Breaks fork both_too_long (Size 0)
  pub not_first_stream : ¬ Breaks fork both_too_long (Size 1)
  pub among_all : Breaks fork in_turn (Bucket 1 3)
  pub not_of_stream : ¬ Breaks fork in_turn (Bucket 0 1)
  pub flow_keeps : AllKeepBuckets line_and_flow flow_burst
  pub flow_long : Breaks line_and_flow long_of_flow (Size 0)
  pub short : Breaks from_65 too_short (Size 0)
