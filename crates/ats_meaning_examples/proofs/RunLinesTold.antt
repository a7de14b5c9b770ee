-- The lines by their definitions.
use Rattle.std.proofs.Common.{refl}
use Rattle.ats_meaning_examples.specs.RunLines.{AnsweredLines, DepartedLines, MeasuredLines, ReportedLines}
use Rattle.ats_meaning_examples.specs.RunLines.{FoundLines, RunLinesAreTold, ShapedLines}
use Rattle.ats_replay.specs.Departures as run
use Rattle.ats_replay.specs.Report as report
use Rattle.ats_witness_text.specs.Text as witness
use Rattle.ats_fit_text.specs.Text as fit
use Rattle.ats_admission_text.specs.Text as admission
use Rattle.ats_schedule.specs.Reading.{header}
use Rattle.ats_shape.specs.Text as shape
use Rattle.ats_replay.specs.Totals.{counts_text, totals_line}

departed_lines : DepartedLines
unfolding run.frame_line run.hop_line run.station_line run.journey_text run.departures_text
departed_lines = record {
  frame = λ network n r. refl;
  hop = λ topology port h. refl;
  eligible = λ e. refl;
  late = λ e. refl;
  size = refl;
  not_sent = refl;
  sent = λ start end. refl;
  sink = λ at. refl;
  discard = refl;
  leg = λ topology path leg. refl;
  copy = λ topology s n leg. refl;
  journey = λ network n j. refl;
  run = λ network journeys. refl;
}

reported_lines : ReportedLines
unfolding counts_text totals_line report.summary_text report.report_text
reported_lines = record {
  counts = λ t. refl;
  totals = λ t. refl;
  first = λ network sender. refl;
  further = λ network sender n. refl;
  summary = λ s bound. refl;
  no_bound = refl;
  bound = λ bound. refl;
  no_sums = λ network sender listener. refl;
  sums = λ network sums sender listener. refl;
  report = λ network journeys sums. refl;
}

measured_lines : MeasuredLines
unfolding witness.hop_line witness.release_line fit.sender_line fit.total_line fit.fit_text header
measured_lines = record {
  delay = λ topology port delay. refl;
  release = λ network r. refl;
  sender = λ s m. refl;
  flow = refl;
  stream = λ burst. refl;
  no_sizes = refl;
  sizes = λ s. refl;
  no_burst = λ declared. refl;
  burst = λ declared burst. refl;
  fit = λ network releases measured. refl;
  schedule = λ network releases. refl;
  conforms = λ count. refl;
  size = λ frame. refl;
  bucket = λ since frame. refl;
  records = λ t. refl;
}

answered_lines : AnsweredLines
unfolding admission.given_text admission.reason_end
answered_lines = record {
  admit = λ stream. refl;
  lowest = λ stream. refl;
  withdraw = λ name. refl;
  refused = λ topology name why. refl;
  taken = λ topology. refl;
  unknown = λ topology. refl;
  limit = λ topology. refl;
  all = λ topology asked given. refl;
}

shaped_lines : ShapedLines
unfolding shape.frame_text
shaped_lines = record {
  frame = λ n name f v. refl;
  eligible = λ e. refl;
  late = λ e. refl;
  size = refl;
  no_frames = λ streams n vs. refl;
  frames = λ streams n f fs v vs. refl;
  report = λ s vs. refl;
  text = λ s. refl;
}

found_lines : FoundLines
unfolding witness.title_line witness.witness_line witness.found_text witness.witness_text shape.totals_text
found_lines = record {
  station = λ network stream listener. refl;
  no_title = λ name. refl;
  title = λ name station. refl;
  gap = λ name station delay bound. refl;
  found = λ network stream listener bound found. refl;
  each = λ network stream founds bound. refl;
  admission = λ network asked. refl;
  shapes = λ verdicts. refl;
}

pub run_lines_are_told : RunLinesAreTold
run_lines_are_told = record {
  departed = departed_lines;
  reported = reported_lines;
  measured = measured_lines;
  answered = answered_lines;
  shaped = shaped_lines;
  found = found_lines;
}
