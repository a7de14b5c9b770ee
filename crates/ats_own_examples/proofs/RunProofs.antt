use Rattle.std.proofs.Common.{refl}
use Rattle.std.specs.Fmt.{digits}
use Rattle.ats_trace.specs.Run.{releases_of}
use Rattle.ats_conform.specs.Releases.{AllKeepBuckets}
use Rattle.ats_replay.specs.Departures.{departures_text, frame_line, hop_line, journey_text, station_line}
use Rattle.ats_replay.specs.Report.{report_text, summary_text}
use Rattle.ats_replay.specs.Totals.{counts_text, totals_line}
use Rattle.ats_examples.specs.OwnFrames.{own, own_babbler}
use Rattle.ats_examples.proofs.OwnFrameProofs.{own_babbler_counts}
use Rattle.ats_examples.proofs.PartTest.{legal_by}
use Rattle.ats_tree_examples.specs.Networks.{from_bridge}
use Rattle.ats_own_examples.specs.Networks.{local, own_and_flow}
use Rattle.ats_own_examples.specs.Runs.{RunsAreReported, RunsAreSent, RunsAreWorked, bridge_made, ending_frames}
use Rattle.ats_own_examples.specs.Runs.{local_frames, local_made, own_made}

-- Runs and their texts, by computation.

sent : RunsAreSent
unfolding digits departures_text frame_line hop_line journey_text station_line counts_text totals_line
sent = record {
  ending_legal = legal_by own_and_flow ending_frames refl;
  of_ending = refl;
  local_legal = legal_by local local_frames refl;
  of_local = refl;
  of_own = refl;
  of_babbler = refl;
  of_bridge = refl;
  of_behind = refl;
}

reported : RunsAreReported
unfolding digits report_text summary_text counts_text totals_line
reported = record {
  own_releases = refl;
  own_legal = legal_by own own_made refl;
  of_own = refl;
  bridge_releases = refl;
  bridge_legal = legal_by from_bridge bridge_made refl;
  of_bridge = refl;
  local_releases = refl;
  local_legal = legal_by local local_made refl;
  of_local = refl;
}

-- the bridge has number 2
babbles : ¬ AllKeepBuckets own (releases_of own_babbler)
babbles keep = own_babbler_counts.babbles (keep 2)

pub runs_are_worked : RunsAreWorked
runs_are_worked = record { sent = sent; reported = reported; babbles = babbles }
