use Rattle.std.specs.Prelude.{◌≡◌, ℕ, ◌+◌, ◌-◌, ◌*◌, ◌<◌, ◌≤◌, ◌&&◌, nat_le, nat_lt, max, List, [], ◌∷◌, ◌++◌, length}
use Rattle.std.specs.Prelude.{None, Some, Ok}
use Rattle.ats_num.specs.Failure.{◌>>=◌, ok_where}
use Rattle.ats_pcap.specs.FaultText.{fault_text as capture_fault_text}
use Rattle.ats_pcap.specs.declared.fault.CaptureFault.{CaptureFault}
use Rattle.ats_pcap.specs.declared.record.Record.{Record}
use Rattle.ats_network.specs.Network.{DeclaredNetwork}
use Rattle.ats_network.specs.Senders.{sender_at}
use Rattle.ats_trace.specs.Releases.{ports_of_frames}
use Rattle.ats_capture.specs.FaultText.{records_fault_text}
use Rattle.ats_capture.specs.Traffic.{Traffic, first_time, stream_of, traffic_from, with_record}
use Rattle.ats_capture.specs.declared.fault.JoinFault.TheVariants.{Limit}
use Rattle.ats_capture.specs.declared.fault.RecordsFault.TheVariants.{Capture}

-- each record is counted. One that no stream of the station has is counted as such too, and one of a stream that is
-- longer than 2000 octets as that; any other makes a release of its stream behind those before it, at its time in
-- picoseconds, where a run may have it: not past 10^17 ps, with at most 200,000 frames, whose routes have 3,200,000
-- ports together at most. Else the limit is told with the number of the record, from 1
pub record RecordsAreRead : Type 0 where
  pub none : (network : DeclaredNetwork) (station nanos : ℕ) (traffic : Traffic) (r : Record)
      → stream_of network station r.identity ≡ None
      → with_record network station nanos traffic r
      ≡ Ok (record traffic { records = traffic.records + 1; unidentified = traffic.unidentified + 1 })
  pub long : (network : DeclaredNetwork) (station nanos sender : ℕ) (traffic : Traffic) (r : Record)
      → stream_of network station r.identity ≡ Some sender → 2000 < r.octets
      → with_record network station nanos traffic r
      ≡ Ok (record traffic { records = traffic.records + 1; oversize = traffic.oversize + 1 })
  pub released : (network : DeclaredNetwork) (station nanos sender : ℕ) (traffic : Traffic) (r : Record)
      → stream_of network station r.identity ≡ Some sender → r.octets ≤ 2000
      → with_record network station nanos traffic r
      ≡ ok_where (nat_le (nanos * 1000) 100000000000000000 && nat_lt (length traffic.releases) 200000
      && nat_le (ports_of_frames network traffic.releases + length (sender_at network sender).ports) 3200000)
      (Limit (traffic.records + 1)) (record traffic {
        releases = traffic.releases
            ++ record { at = record { 0 = nanos * 1000 }; sender = sender; octets = r.octets } ∷ [];
        records = traffic.records + 1;
      })

-- a capture begins at the time of its first record, and at 0 where it has none. A record is taken, so many nanoseconds
-- after the first as the latest up to it is, before those behind it; and a fault of the capture itself is told in its
-- own words
pub record CaptureRecordsAreRead : Type 0 where
  pub records : RecordsAreRead
  pub no_record : first_time [] ≡ 0
  pub first : (r : Record) (records : List Record) → first_time (r ∷ records) ≡ r.nanos
  pub next : (network : DeclaredNetwork) (station first latest : ℕ) (traffic : Traffic) (r : Record)
      (records : List Record) → traffic_from network station first latest traffic (r ∷ records)
      ≡ (with_record network station (max latest r.nanos - first) traffic r
      >>= λ more. traffic_from network station first (max latest r.nanos) more records)
  pub capture : (fault : CaptureFault) → records_fault_text (Capture fault) ≡ capture_fault_text fault
