use Rattle.std.specs.Prelude.{ℕ, ◌+◌, ◌-◌, ◌*◌, ◌&&◌, Bool, not, nat_le, nat_lt, max, is_none, is_some, if◌then◌else◌}
use Rattle.std.specs.Prelude.{List, length, map, take, filter, filter_map, find, fold, Option, Some, None, Result}
use Rattle.std.specs.Option.{option_and_then}
use Rattle.std.specs.List.{enumerate_from}
use Rattle.ats_num.specs.Failure.{unless}
use Rattle.ats_num.specs.declared.time.TheConstants.{PS_PER_NS}
use Rattle.ats_num.specs.declared.wire.TheConstants.{MAX_OCTETS}
use Rattle.ats_pcap.specs.declared.record.Record.{Record}
use Rattle.ats_network.specs.Network.{DeclaredNetwork}
use Rattle.ats_trace.specs.Releases.{ports_of_frames}
use Rattle.ats_trace.specs.declared.journey.Release.{Release}
use Rattle.ats_trace.specs.declared.run.TheConstants.{MAX_FRAMES, MAX_HOPS, MAX_RELEASE_PS}
use Rattle.ats_capture.specs.Traffic.{Traffic, first_time, stream_of}
use Rattle.ats_capture.specs.declared.fault.JoinFault.{JoinFault}
use Rattle.ats_capture.specs.declared.fault.JoinFault.TheVariants.{Limit}

-- a record belongs to no stream of the station
abbrev pub is_unidentified : DeclaredNetwork → ℕ → Record → Bool
is_unidentified network station r = is_none (stream_of network station r.identity)

-- it belongs to one, and is longer than a frame
abbrev pub is_oversize : DeclaredNetwork → ℕ → Record → Bool
is_oversize network station r = is_some (stream_of network station r.identity) && nat_lt MAX_OCTETS r.octets

-- the nanoseconds from the first record to the record with this number, counted from 0: the greatest time up to it
-- counts, so one that goes back in time comes with the one before
abbrev pub nanos_at : List Record → ℕ → ℕ
nanos_at records n =
    fold max (first_time records) (map (λ (r : Record). r.nanos) (take (n + 1) records)) - first_time records

-- the release of a sender so many nanoseconds after the first record, unless it is longer than a frame
abbrev pub frame_of : ℕ → ℕ → ℕ → Option Release
frame_of nanos octets sender =
    if nat_lt MAX_OCTETS octets then None
    else Some (record { at = record { 0 = nanos * PS_PER_NS }; sender = sender; octets = octets })

-- the release of a record with its number, if it belongs to a stream of the station and is no longer than a frame
abbrev pub release_of : DeclaredNetwork → ℕ → List Record → ℕ × Record → Option Release
release_of network station records numbered =
    option_and_then (frame_of (nanos_at records numbered.0) numbered.1.octets)
    (stream_of network station numbered.1.identity)

-- the releases of the first so many records of all
abbrev pub releases_before : DeclaredNetwork → ℕ → List Record → ℕ → List Release
releases_before network station records n =
    filter_map (release_of network station records) (enumerate_from 0 (take n records))

-- a run may have a release so many nanoseconds after the first record, behind so many others, where the frames up to it
-- have so many ports together
abbrev pub may_be_run : ℕ → ℕ → ℕ → Bool
may_be_run nanos before ports =
    nat_le (nanos * PS_PER_NS) MAX_RELEASE_PS && nat_lt before MAX_FRAMES && nat_le ports MAX_HOPS

-- a record has a release, which no run may have
abbrev pub is_over : DeclaredNetwork → ℕ → List Record → ℕ × Record → Bool
is_over network station records numbered =
    is_some (release_of network station records numbered)
    && not (may_be_run (nanos_at records numbered.0)
    (length (releases_before network station records numbered.0))
    (ports_of_frames network (releases_before network station records (numbered.0 + 1))))

-- the first of these, if there is one
abbrev pub first_over : DeclaredNetwork → ℕ → List Record → Option (ℕ × Record)
first_over network station records = find (is_over network station records) (enumerate_from 0 records)

-- the releases of all records, and the three counts
abbrev pub counted : DeclaredNetwork → ℕ → List Record → Traffic
counted network station records = record {
  releases = filter_map (release_of network station records) (enumerate_from 0 records);
  records = length records;
  unidentified = length (filter (is_unidentified network station) records);
  oversize = length (filter (is_oversize network station) records);
}

-- these, unless some record is over a limit: the first is named by its number, counted from 1
abbrev pub counted_unless : DeclaredNetwork → ℕ → List Record → Result Traffic JoinFault
counted_unless network station records =
    unless (λ (numbered : ℕ × Record). Limit (numbered.0 + 1)) (first_over network station records)
    (counted network station records)
