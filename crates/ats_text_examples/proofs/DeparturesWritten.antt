use Rattle.std.proofs.Common.{◌≡◌, refl}
use Rattle.std.specs.Fmt.{digits}
use Rattle.ats_replay.specs.Departures.{departures_text, frame_line, hop_line, journey_text}
use Rattle.ats_replay.specs.Totals.{counts_text, totals_line}
use Rattle.ats_text_examples.specs.Worked.{way}
use Rattle.ats_text_examples.specs.Runs.{departures, journeys}

-- What `replay` prints, by computation.

pub departures_are : departures_text way journeys ≡ departures
unfolding digits departures_text frame_line hop_line journey_text counts_text totals_line
departures_are = refl
