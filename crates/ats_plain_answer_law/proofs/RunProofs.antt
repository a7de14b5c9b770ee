use Rattle.std.proofs.Common.{Ok, Err, ap, ◌∙◌}
use Rattle.std.specs.Prelude.{Result}
use Rattle.ats_network.specs.Network.{DeclaredNetwork}
use Rattle.ats_verdict_text.specs.Text.{reason_text, refusal_text}
use Rattle.ats_command_input.specs.Answer.{Answer}
use Rattle.ats_command_due.specs.Captured.{Captured, IsCaptured, captured_in}
use Rattle.ats_command_due.specs.Generated.{IsGenerated, gen_fault_text, generated_in}
use Rattle.ats_command_due.specs.Held.{Held, IsHeldText, held, held_in}
use Rattle.ats_command_due.specs.Recorded.{IsRecorded, Recorded, recorded_in}
use Rattle.ats_command_due.specs.Replayed.{IsOneOf, IsReplayed, Scheduled, scheduled_in}
use Rattle.ats_command_due.specs.Witnessed.{IsWitnessed, Witnessed, witnessed, witnessed_in}
use Rattle.ats_plain_answer_law.specs.Lines.{refused_for}
use Rattle.ats_plain_answer_law.specs.Runs.{CaptureIsAnswered, GenerateIsAnswered, PeaksAreAnswered, RecordIsAnswered}
use Rattle.ats_plain_answer_law.specs.Runs.{ReplayIsAnswered, RunsAreAnswered, WitnessIsAnswered}
use Rattle.ats_plain_answer_law.proofs.Reading.{captured_is, held_unless, made_is, not_made, recorded_is, scheduled_is}
use Rattle.ats_plain_answer_law.proofs.Reading.{uncaptured, unfilled, unheld, unjoined, unmade, unplayed, unported}
use Rattle.ats_plain_answer_law.proofs.Reading.{unrecorded, unreleased, unrowed, unscheduled, unstationed, unstreamed}
use Rattle.ats_plain_answer_law.proofs.Reading.{unwitnessed, witnessed_unless}
use Rattle.ats_plain_answer_law.proofs.Stepping.{alike, through, unless}

-- Which answers there are to each command that runs frames.

replay : ReplayIsAnswered
replay = record {
  not_taken = λ net schedule net_bytes bytes order answer due is.
      alike (λ (d : Result Scheduled Answer). IsOneOf (IsReplayed order) d answer)
      (scheduled_in net schedule net_bytes bytes) (Err due) (unscheduled net schedule net_bytes bytes due is);
  no_releases = λ net schedule net_bytes bytes order network answer due is none.
      alike (λ (d : Result Scheduled Answer). IsOneOf (IsReplayed order) d answer)
      (scheduled_in net schedule net_bytes bytes) (Err due)
      (unreleased net schedule net_bytes bytes network due is none);
  done = λ net schedule net_bytes bytes order network releases answer is are.
      through (λ (d : Result Scheduled Answer). IsOneOf (IsReplayed order) d answer)
      (scheduled_in net schedule net_bytes bytes) (Ok (record { network = network; releases = releases }))
      (scheduled_is net schedule net_bytes bytes network releases is are)
      (λ h. (h.1.0, h.0, (h.1.1.is_run.by_order, h.1.1.is_run.exactly), h.1.1.written))
      (λ h. (
        h.1,
        (h.0, record { is_run = record { by_order = h.2.0; exactly = h.2.1 }; written = h.3 }),
      ));
}

capture : CaptureIsAnswered
capture = record {
  not_taken = λ net station file net_bytes bytes order answer due is.
      alike (λ (d : Result Captured Answer). IsOneOf (IsCaptured order) d answer)
      (captured_in net station file net_bytes bytes) (Err due) (uncaptured net station file net_bytes bytes due is);
  no_station = λ net station file net_bytes bytes order network answer due is none.
      alike (λ (d : Result Captured Answer). IsOneOf (IsCaptured order) d answer)
      (captured_in net station file net_bytes bytes) (Err due)
      (unstationed net station file net_bytes bytes network due is none);
  no_traffic = λ net station file net_bytes bytes order network place answer due is named none.
      alike (λ (d : Result Captured Answer). IsOneOf (IsCaptured order) d answer)
      (captured_in net station file net_bytes bytes) (Err due)
      (unjoined net station file net_bytes bytes network place due is named none);
  done = λ net station file net_bytes bytes order network place traffic answer is named joined.
      through (λ (d : Result Captured Answer). IsOneOf (IsCaptured order) d answer)
      (captured_in net station file net_bytes bytes) (Ok (record { network = network; traffic = traffic }))
      (captured_is net station file net_bytes bytes network place traffic is named joined)
      (λ h. (h.1.0, h.0, (h.1.1.is_run.by_order, h.1.1.is_run.exactly), h.1.1.written))
      (λ h. (
        h.1,
        (h.0, record { is_run = record { by_order = h.2.0; exactly = h.2.1 }; written = h.3 }),
      ));
}

of_port : RecordIsAnswered
of_port = record {
  not_taken = λ net schedule port net_bytes bytes order answer due is.
      alike (λ (d : Result Recorded Answer). IsOneOf (IsRecorded order) d answer)
      (recorded_in net schedule port net_bytes bytes) (Err due) (unrecorded net schedule port net_bytes bytes due is);
  no_port = λ net schedule port net_bytes bytes order network answer due is none.
      alike (λ (d : Result Recorded Answer). IsOneOf (IsRecorded order) d answer)
      (recorded_in net schedule port net_bytes bytes) (Err due)
      (unported net schedule port net_bytes bytes network due is none);
  no_releases = λ net schedule port net_bytes bytes order network place answer due is named none.
      alike (λ (d : Result Recorded Answer). IsOneOf (IsRecorded order) d answer)
      (recorded_in net schedule port net_bytes bytes) (Err due)
      (unplayed net schedule port net_bytes bytes network place due is named none);
  done = λ net schedule port net_bytes bytes order network place releases answer is named are.
      through (λ (d : Result Recorded Answer). IsOneOf (IsRecorded order) d answer)
      (recorded_in net schedule port net_bytes bytes)
      (Ok (record { network = network; port = place; releases = releases }))
      (recorded_is net schedule port net_bytes bytes network place releases is named are)
      (λ h. (h.1.0, h.0, (h.1.1.is_run.by_order, h.1.1.is_run.exactly), h.1.1.capture))
      (λ h. (
        h.1,
        (h.0, record { is_run = record { by_order = h.2.0; exactly = h.2.1 }; capture = h.3 }),
      ));
}

peaks : PeaksAreAnswered
peaks = record {
  not_taken = λ net certificate schedule net_bytes rows_bytes bytes order answer due is.
      alike (λ (d : Result Held Answer). IsOneOf (IsHeldText order) d answer)
      (held_in net certificate schedule net_bytes rows_bytes bytes) (Err due)
      (unheld net certificate schedule net_bytes rows_bytes bytes due is);
  no_rows = λ net certificate schedule net_bytes rows_bytes bytes order network answer due is none.
      alike (λ (d : Result Held Answer). IsOneOf (IsHeldText order) d answer)
      (held_in net certificate schedule net_bytes rows_bytes bytes) (Err due)
      (unrowed net certificate schedule net_bytes rows_bytes bytes network due is none);
  no_releases = λ net certificate schedule net_bytes rows_bytes bytes order network rows answer due is named none.
      alike (λ (d : Result Held Answer). IsOneOf (IsHeldText order) d answer)
      (held_in net certificate schedule net_bytes rows_bytes bytes) (Err due)
      (unfilled net certificate schedule net_bytes rows_bytes bytes network rows due is named none);
  refused = λ net certificate schedule net_bytes rows_bytes bytes order network rows releases refusal answer is named
      are why.
      alike (λ (d : Result Held Answer). IsOneOf (IsHeldText order) d answer)
      (held_in net certificate schedule net_bytes rows_bytes bytes)
      (Err (refused_for (refusal_text network.topology refusal)))
      (held_unless net certificate schedule net_bytes rows_bytes bytes network rows releases is named are
      ∙ ap (unless (refusal_text network.topology) (held network rows releases)) why);
  done = λ net certificate schedule net_bytes rows_bytes bytes order network rows releases answer is named are holds.
      through (λ (d : Result Held Answer). IsOneOf (IsHeldText order) d answer)
      (held_in net certificate schedule net_bytes rows_bytes bytes) (Ok (held network rows releases))
      (held_unless net certificate schedule net_bytes rows_bytes bytes network rows releases is named are
      ∙ ap (unless (refusal_text network.topology) (held network rows releases)) holds)
      (λ h. (
        h.1.0,
        h.1.1,
        h.0,
        (h.1.2.is_run.by_order, h.1.2.is_run.exactly),
        h.1.2.are_peaks,
        h.1.2.written,
      ))
      (λ h. (
        h.2,
        (
          h.0,
          h.1,
          record { is_run = record { by_order = h.3.0; exactly = h.3.1 }; are_peaks = h.4; written = h.5 },
        ),
      ));
}

generate : GenerateIsAnswered
generate = record {
  not_taken = λ net bytes seed count answer due is.
      alike (λ (d : Result DeclaredNetwork Answer). IsOneOf (IsGenerated seed count) d answer)
      (generated_in net seed count bytes) (Err due) (unmade net bytes seed count due is);
  refused = λ net bytes seed count network fault answer is why.
      alike (λ (d : Result DeclaredNetwork Answer). IsOneOf (IsGenerated seed count) d answer)
      (generated_in net seed count bytes) (Err (refused_for (gen_fault_text fault)))
      (not_made net bytes seed count network fault is why);
  done = λ net bytes seed count network answer is none.
      through (λ (d : Result DeclaredNetwork Answer). IsOneOf (IsGenerated seed count) d answer)
      (generated_in net seed count bytes) (Ok network) (made_is net bytes seed count network is none)
      (λ h. (
        h.1.0,
        h.1.2.0,
        h.0,
        h.1.1,
        (h.1.2.1.is_run.by_order, h.1.2.1.is_run.exactly),
        h.1.2.1.written,
      ))
      (λ h. (
        h.2,
        (
          h.0,
          h.3,
          (h.1, record { is_run = record { by_order = h.4.0; exactly = h.4.1 }; written = h.5 }),
        ),
      ));
}

witness : WitnessIsAnswered
witness = record {
  not_taken = λ net name bytes answer due is.
      alike (λ (d : Result Witnessed Answer). IsOneOf IsWitnessed d answer) (witnessed_in net name bytes) (Err due)
      (unwitnessed net name bytes due is);
  no_stream = λ net name bytes network answer due is none.
      alike (λ (d : Result Witnessed Answer). IsOneOf IsWitnessed d answer) (witnessed_in net name bytes) (Err due)
      (unstreamed net name bytes network due is none);
  refused = λ net name bytes network stream reason answer is named why.
      alike (λ (d : Result Witnessed Answer). IsOneOf IsWitnessed d answer) (witnessed_in net name bytes)
      (Err (refused_for (reason_text network.topology reason)))
      (witnessed_unless net name bytes network stream is named
      ∙ ap (unless (reason_text network.topology) (witnessed network stream)) why);
  done = λ net name bytes network stream answer is named holds.
      through (λ (d : Result Witnessed Answer). IsOneOf IsWitnessed d answer) (witnessed_in net name bytes)
      (Ok (witnessed network stream))
      (witnessed_unless net name bytes network stream is named
      ∙ ap (unless (reason_text network.topology) (witnessed network stream)) holds)
      (λ h. (h.1.0, h.0, h.1.1.are_found, h.1.1.written))
      (λ h. (h.1, (h.0, record { are_found = h.2; written = h.3 })));
}

pub runs_are_answered : RunsAreAnswered
runs_are_answered = record {
  replay = replay;
  capture = capture;
  of_port = of_port;
  peaks = peaks;
  generate = generate;
  witness = witness;
}
