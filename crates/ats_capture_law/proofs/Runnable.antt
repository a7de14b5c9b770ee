-- What the records of a file come to may be run.
use Rattle.std.proofs.Common.{◌≡◌, ℕ, Bool, true, false, cond, List, length, take, Result, Ok, Err, subst}
use Rattle.std.specs.Prelude.{All, IfOk, nat_lt}
use Rattle.ats_num.specs.Failure.{◌>>=◌}
use Rattle.ats_pcap.specs.Capture.{Position, position_of, records_of}
use Rattle.ats_pcap.specs.declared.fault.CaptureFault.{CaptureFault}
use Rattle.ats_pcap.specs.declared.record.Record.{Record}
use Rattle.ats_capture.specs.Reading.{IsLongEnough, of_file, records_in}
use Rattle.ats_capture.specs.declared.fault.RecordsFault.{RecordsFault}
use Rattle.ats_capture.specs.declared.fault.RecordsFault.TheVariants.{TooLong}
use Rattle.ats_capture.specs.declared.reading.TheConstants.{MAX_BYTES}
use Rattle.ats_capture.proofs.Kept.{records_keep}
use Rattle.ats_capture.proofs.Traffics.{traffic_few_ports, traffic_releases}
use Rattle.ats_capture_law.specs.Laws.{TrafficHasFewPorts, TrafficMayBeRun}

-- each record of a file has the octets of a frame at least
long_enough : (bytes : List ℕ) (records : List Record) → records_in bytes ≡ Ok records → All IsLongEnough records
unfolding records_in
long_enough bytes records h = by (nat_lt MAX_BYTES (length bytes)) h
  where
    none : (read : Result Position RecordsFault)
        → (read >>= (λ p. let r : Result (List Record) RecordsFault = Err TooLong in r)) ≡ Ok records
        → All IsLongEnough records
    none (Ok p) e = cc e
    none (Err fault) e = cc e

    whole : (read : Result (List Record) CaptureFault) → IfOk read (All IsLongEnough) → of_file read ≡ Ok records
        → All IsLongEnough records
    whole (Ok found) long e = let same : found ≡ records = cc e in subst (All IsLongEnough) same long
    whole (Err fault) long e = cc e

    by : (over : Bool)
        → cond over (of_file (position_of (take MAX_BYTES bytes)) >>= (λ p. Err TooLong)) (of_file (records_of bytes))
        ≡ Ok records → All IsLongEnough records
    by true e = none (of_file (position_of (take MAX_BYTES bytes))) e
    by false e = whole (records_of bytes) (records_keep bytes) e

pub traffic_may_be_run : TrafficMayBeRun
traffic_may_be_run network station bytes records traffic read joined =
    traffic_releases network station records traffic joined (long_enough bytes records read)

pub traffic_has_few_ports : TrafficHasFewPorts
traffic_has_few_ports network station records traffic joined = traffic_few_ports network station records traffic joined
