use Rattle.std.proofs.Common.{◌≡◌, [], ◌∷◌, Some, None, refl}
use Rattle.std.specs.Fmt.{digits}
use Rattle.ats_replay.specs.Report.{report_text, summary_text}
use Rattle.ats_replay.specs.Totals.{counts_text, totals_line}
use Rattle.ats_text_examples.specs.Worked.{way}
use Rattle.ats_text_examples.specs.Runs.{journeys, summed, summed_unbounded, RunsAreWritten, TextsAreOfRuns}
use Rattle.ats_text_examples.proofs.DeparturesWritten.{departures_are}

-- What `generate` prints, by computation.

report_is : report_text way journeys (Some (20002 ∷ 30003 ∷ [])) ≡ summed
unfolding digits report_text summary_text counts_text totals_line
report_is = refl

unbounded_is : report_text way journeys None ≡ summed_unbounded
unfolding digits report_text summary_text counts_text totals_line
unbounded_is = refl

texts_are : TextsAreOfRuns
texts_are = record {
  replayed = λ order network releases text run is. is.written;
  captured = λ order network traffic text run is. is.written;
  generated = λ network releases text run is. is.written;
}

pub runs_are_written : RunsAreWritten
unfolding digits
runs_are_written = record {
  texts = texts_are;
  replay = departures_are;
  generate = report_is;
  unbounded = unbounded_is;
  capture = refl;
}
