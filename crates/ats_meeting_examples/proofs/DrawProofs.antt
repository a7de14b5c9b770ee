use Rattle.std.proofs.Common.{refl}
use Rattle.ats_num.specs.Pace.{drawn_wait}
use Rattle.ats_num.specs.Tie.{late_key, mixed_key}
use Rattle.ats_examples.specs.LegalRuns.{greatest_wait}
use Rattle.ats_examples.specs.Networks.{over_two_ranged}
use Rattle.ats_examples.proofs.LegalProofs.{run_by}
use Rattle.ats_text_examples.specs.Worked.{way}
use Rattle.ats_meeting_examples.specs.Draws.{DrawsAreByFrame, from_two_stations, latest_over_three_rates, over_both}
use Rattle.ats_meeting_examples.specs.Draws.{over_three_rates}
use Rattle.ats_meeting_examples.specs.Networks.{ranged_fork}

-- Runs by waits, by computation.

pub draws_are_by_frame : DrawsAreByFrame
draws_are_by_frame = record {
  stations = run_by (mixed_key 7) (drawn_wait 7) ranged_fork from_two_stations refl refl refl;
  ports = run_by (mixed_key 7) (drawn_wait 7) over_two_ranged over_both refl refl refl;
  senders = run_by (mixed_key 7) (drawn_wait 7) way over_three_rates refl refl refl;
  latest = run_by late_key greatest_wait way latest_over_three_rates refl refl refl;
}
