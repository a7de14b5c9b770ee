use Rattle.std.proofs.Common.{◌≡◌, ◌∙◌, ℕ, ◌+◌, List, length, filter, filter_map, Option, Result, Ok, sym, ap}
use Rattle.std.specs.List.{enumerate_from}
use Rattle.ats_num.specs.Failure.{◌>>=◌, unless}
use Rattle.ats_network.specs.Network.{DeclaredNetwork}
use Rattle.ats_trace.specs.declared.journey.Release.{Release}
use Rattle.ats_pcap.specs.declared.record.Record.{Record}
use Rattle.ats_capture.specs.FaultText.{fault_text}
use Rattle.ats_capture.specs.Traffic.{Traffic, traffic_of}
use Rattle.ats_capture.specs.declared.fault.JoinFault.TheVariants.{Limit}
use Rattle.ats_capture_law.proofs.Counting.{traffic_is_counted}
use Rattle.ats_capture_law.specs.Counted.{counted, is_unidentified, release_of}
use Rattle.ats_command_input.specs.Input.{declared_in, traffic_in}
use Rattle.ats_command_input.specs.Answer.{Answer}
use Rattle.ats_command_due.specs.Due.{told_bytes}
use Rattle.ats_command_law.specs.CaptureMeaning.{IsCounted}
use Rattle.ats_answer_examples.specs.Captured.{CapturedRunIsMeant, CapturesAreMeant, CountingIsMeant, HasTraffic}
use Rattle.ats_answer_examples.specs.Captured.{ReleasedIsMeant, TellingIsMeant, WithinIsMeant}

-- What is due to a capture, part by part.

to_traffic : (file bytes : List ℕ) (network : DeclaredNetwork) (place : ℕ) (traffic : Traffic) (records : List Record)
    → IsCounted file bytes network place traffic records → HasTraffic file bytes network place traffic records
to_traffic file bytes network place traffic records is = record {
  read = is.read;
  none_over = is.none_over;
  releases = ap (λ (t : Traffic). t.releases) is.counts;
  counted = ap (λ (t : Traffic). t.records) is.counts;
  unidentified = ap (λ (t : Traffic). t.unidentified) is.counts;
  oversize = ap (λ (t : Traffic). t.oversize) is.counts;
}

abbrev of_parts : (releases : List Release) (records unidentified oversize : ℕ) → Traffic
of_parts releases records unidentified oversize =
    record { releases = releases; records = records; unidentified = unidentified; oversize = oversize }

from_traffic : (file bytes : List ℕ) (network : DeclaredNetwork) (place : ℕ) (traffic : Traffic)
    (records : List Record) → HasTraffic file bytes network place traffic records
    → IsCounted file bytes network place traffic records
from_traffic file bytes network place traffic records has =
    let all : List Release = filter_map (release_of network place records) (enumerate_from 0 records) in
    let none : ℕ = length (filter (is_unidentified network place) records) in
    record {
      read = has.read;
      none_over = has.none_over;
      counts = ap (λ (rs : List Release). of_parts rs traffic.records traffic.unidentified traffic.oversize)
          has.releases
          ∙ ap (λ n. of_parts all n traffic.unidentified traffic.oversize) has.counted
          ∙ ap (λ n. of_parts all (length records) n traffic.oversize) has.unidentified
          ∙ ap (of_parts all (length records) none) has.oversize;
    }

in_file : (file bytes : List ℕ) (network : DeclaredNetwork) (place : ℕ) (traffic : Traffic) (records : List Record)
    → IsCounted file bytes network place traffic records → traffic_in network place file bytes ≡ Ok traffic
unfolding traffic_in
in_file file bytes network place traffic records is =
    ap (λ (found : Result (List Record) Answer). found >>= λ some.
    declared_in file fault_text (traffic_of network place some)) is.read
    ∙ ap (declared_in file fault_text) (traffic_is_counted network place records)
    ∙ ap (λ (over : Option (ℕ × Record)). declared_in file fault_text
    (unless (λ (numbered : ℕ × Record). Limit (numbered.0 + 1)) over (counted network place records))) is.none_over
    ∙ ap Ok (sym is.counts)

counting_is_meant : CountingIsMeant
counting_is_meant = record {
  parts = λ file bytes network place traffic records. (
    to_traffic file bytes network place traffic records,
    from_traffic file bytes network place traffic records,
  );
  in_file = in_file;
}

captured_run_is_meant : CapturedRunIsMeant
captured_run_is_meant net station file net_bytes file_bytes order text network place records traffic run = (
  λ is. record {
    network_declared = is.network_declared;
    named = is.named;
    has = to_traffic file file_bytes network place traffic records is.captured;
    rules = is.rules;
    run_of_releases = is.replay.is_run;
    written = is.replay.written;
  },
  λ prints. record {
    network_declared = prints.network_declared;
    named = prints.named;
    captured = from_traffic file file_bytes network place traffic records prints.has;
    rules = prints.rules;
    replay = record { is_run = prints.run_of_releases; written = prints.written };
  },
)

released_is_meant : ReleasedIsMeant
released_is_meant net station file net_bytes file_bytes text network place records traffic = (
  λ are. record {
    network_declared = are.network_declared;
    named = are.named;
    has = to_traffic file file_bytes network place traffic records are.captured;
    rules = are.rules;
    may_be_run = are.may_be_run;
    few_ports = are.few_ports;
    written = are.written;
    reads_back = are.reads_back;
  },
  λ prints. record {
    network_declared = prints.network_declared;
    named = prints.named;
    captured = from_traffic file file_bytes network place traffic records prints.has;
    rules = prints.rules;
    may_be_run = prints.may_be_run;
    few_ports = prints.few_ports;
    written = prints.written;
    reads_back = prints.reads_back;
  },
)

telling_is_meant : TellingIsMeant
telling_is_meant told net station file schedule released = (
  λ is. (is.due, is.told_on),
  λ both. record { due = both.0; told_on = both.1 },
)

within_is_meant : WithinIsMeant
within_is_meant told net certificate station file order checked captured network rows place records traffic run =
    let meant = captured_run_is_meant net station file (told_bytes told net) (told_bytes told file) order captured
    network place records traffic run in (
      λ is. (is.accepted, meant.0 is.of_capture, is.keeps, is.within),
      λ all. record { accepted = all.0; of_capture = meant.1 all.1; keeps = all.2; within = all.3 },
    )

pub captures_are_meant : CapturesAreMeant
captures_are_meant = record {
  counted = counting_is_meant;
  run = captured_run_is_meant;
  released = released_is_meant;
  told = telling_is_meant;
  within = within_is_meant;
}
