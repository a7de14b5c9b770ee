use Rattle.std.specs.Prelude.{ℕ, List, [], ◌∷◌}
use Rattle.ats_trace.specs.Run.{releases_of}
use Rattle.ats_trace.specs.Talker.{KeepsBuckets}
use Rattle.ats_trace.specs.declared.journey.Release.{Release}
use Rattle.ats_examples.specs.Networks.{line, fork}
use Rattle.ats_examples.specs.Runs.{one_frame, long_frame, first_goes_first}

-- Which of some releases keep the buckets of their talker.

-- two frames of the line's stream, each as large as its burst: at time 0 and at this time. At its rate the burst takes
-- 123360000 ps to come back
abbrev pub two_frames : ℕ → List Release
two_frames at =
    record { at = record { 0 = 0 }; sender = 0; octets = 1522 }
    ∷ record { at = record { 0 = at }; sender = 0; octets = 1522 }
    ∷ []

-- which of these releases keep the buckets of the talker, which is node 0. A frame of another station does not count
pub record TalkersOfExamples : Type 0 where
  pub one_frame : KeepsBuckets line (releases_of one_frame) 0
  pub another_station : KeepsBuckets fork (releases_of first_goes_first) 0
  pub burst_back : KeepsBuckets line (two_frames 123360000) 0
  pub too_soon : ¬ KeepsBuckets line (two_frames 123359999) 0
  pub too_long : ¬ KeepsBuckets line (releases_of long_frame) 0
