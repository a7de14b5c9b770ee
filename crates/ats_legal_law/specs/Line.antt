use Rattle.std.specs.Prelude.{◌≡◌, ℕ, ◌*◌, ◌<◌, List, length}
use Rattle.ats_network.specs.Network.{IsNetwork}
use Rattle.ats_trace.specs.Journey.{Travel}
use Rattle.ats_trace.specs.Releases.{AreReleases}
use Rattle.ats_trace.specs.Run.{IsIdeal, releases_of}
use Rattle.ats_trace.specs.Stored.{travel_at}
use Rattle.ats_trace.specs.Talker.{talker_of, KeepsBuckets}
use Rattle.ats_trace.specs.declared.journey.Release.{Release}
use Rattle.ats_trace.specs.declared.run.TheConstants.{MAX_FRAMES}
use Rattle.ats_examples.specs.Networks.{line}
use Rattle.ats_examples.specs.Runs.{one_frame}
use Rattle.ats_legal_law.specs.Later.{repeated}

-- Runs of any length over the line.

-- a millisecond, in which a frame of 1522 octets comes over the line, and the bucket of its stream fills again
abbrev pub gap_ps : ℕ
gap_ps = 1000000000

-- so many frames of the one stream, each a millisecond after the one before it
abbrev pub frames_over_line : ℕ → List Travel
frames_over_line n = repeated gap_ps n one_frame

-- the release of the frame with a number
abbrev pub spaced_release : ℕ → Release
spaced_release k = record { at = record { 0 = k * gap_ps }; sender = 0; octets = 1522 }

-- for each number there is a legal run of the line with exactly so many frames, by whose releases the talker keeps its
-- bucket; also for each that is more than may be run
pub record RunsAreOfAnyLength : Type 0 where
  pub network : IsNetwork line
  pub legal : (n : ℕ) → IsIdeal line (frames_over_line n)
  pub long : (n : ℕ) → length (frames_over_line n) ≡ n
  pub released : (n k : ℕ) → k < n → (travel_at (frames_over_line n) k).release ≡ spaced_release k
  pub kept : (n : ℕ) → KeepsBuckets line (releases_of (frames_over_line n)) (talker_of line 0)
  pub beyond : (n : ℕ) → MAX_FRAMES < n → ¬ AreReleases line (releases_of (frames_over_line n))
