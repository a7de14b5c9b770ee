-- The runs whose texts are due keep their order, and peaks are held, and fit.
use Rattle.ats_answer_law.specs.Runs.{PeaksAreHeld, RunsKeepTheirOrder}

pub runs_keep_their_order : RunsKeepTheirOrder
runs_keep_their_order = record {
  replay = λ order network releases text run is. is.is_run.by_order;
  capture = λ order network traffic text run is. is.is_run.by_order;
  buffers = λ order h text run peaks is. is.is_run.by_order;
  record_order = λ order network port releases file run is. is.is_run.by_order;
  generate = λ network releases text run is. is.is_run.by_order;
  witness = λ network stream listener port delay found. found.of_burst.by;
}

pub peaks_are_held : PeaksAreHeld
peaks_are_held = record {
  most = λ order h text run peaks is n below. let peak = is.are_peaks.each n below in
      record { time = peak.reached.0; held = peak.reached.1; no_more = peak.most };
  written = λ order h text run peaks is. is.written;
  fit = λ net certificate schedule net_bytes certificate_bytes schedule_bytes order text network rows releases run
      peaks are n below keep.
      are.fit n below
      (λ i within ranked.
      (let kept = keep i within ranked in record { talker = kept.0; here = kept.1; before = kept.2 }));
}
