use Rattle.std.specs.Prelude.{ℕ, ◌+◌, ◌-◌, ◌*◌, ◌&&◌, ◌==◌, nat_le, nat_lt, max, if◌then◌else◌, List, [], ◌∷◌, ◌++◌}
use Rattle.std.specs.Prelude.{length, Option, Some, None, Result, Ok}
use Rattle.std.specs.Option.{option_and_then}
use Rattle.ats_num.specs.Failure.{◌>>=◌, ok_where}
use Rattle.ats_num.specs.declared.time.TheConstants.{PS_PER_NS}
use Rattle.ats_num.specs.declared.wire.TheConstants.{MAX_OCTETS}
use Rattle.ats_pcap.specs.declared.record.Record.{Record}
use Rattle.ats_network.specs.Network.{DeclaredNetwork}
use Rattle.ats_network.specs.Pushes.{place_identified}
use Rattle.ats_network.specs.Senders.{sender_at}
use Rattle.ats_trace.specs.Releases.{ports_of_frames}
use Rattle.ats_trace.specs.Talker.{talker_of}
use Rattle.ats_trace.specs.declared.journey.Release.{Release}
use Rattle.ats_trace.specs.declared.run.TheConstants.{MAX_FRAMES, MAX_HOPS, MAX_RELEASE_PS}
use Rattle.ats_capture.specs.declared.fault.JoinFault.{JoinFault}
use Rattle.ats_capture.specs.declared.fault.JoinFault.TheVariants.{Limit}

-- what the records of a capture at a station come to: the releases, how many records there are, how many of them
-- belong to no stream of the station, and how many belong to one and are longer than a frame
pub record Traffic : Type 0 where
  pub releases : List Release
  pub records : ℕ
  pub unidentified : ℕ
  pub oversize : ℕ

-- of no record
abbrev pub no_traffic : Traffic
no_traffic = record { releases = []; records = 0; unidentified = 0; oversize = 0 }

-- a stream with this number, where it begins at the station
abbrev pub begun_at : DeclaredNetwork → ℕ → ℕ → Option ℕ
begun_at network station stream = if talker_of network stream == station then Some stream else None

-- the stream that a record belongs to: the one that begins at the station and declares what identifies the record
abbrev pub stream_of : DeclaredNetwork → ℕ → Option (ℕ × ℕ) → Option ℕ
stream_of network station None = None
stream_of network station (Some identity) =
    option_and_then (begun_at network station) (place_identified identity network.streams)

-- the ports of the frames with these releases and of one frame more of this sender, counted together
abbrev pub ports_with : DeclaredNetwork → List Release → ℕ → ℕ
ports_with network releases sender = ports_of_frames network releases + length (sender_at network sender).ports

-- the release so many nanoseconds after the first record, behind so many others, which the record with this number
-- makes, where a run may have it, and frames that together have so many ports
abbrev pub release_at : ℕ → ℕ → ℕ → ℕ → ℕ → ℕ → Result Release JoinFault
release_at number before ports nanos sender octets =
    ok_where (nat_le (nanos * PS_PER_NS) MAX_RELEASE_PS && nat_lt before MAX_FRAMES && nat_le ports MAX_HOPS)
    (Limit number) (record { at = record { 0 = nanos * PS_PER_NS }; sender = sender; octets = octets })

-- with one release more
abbrev pub with_release : Traffic → Release → Traffic
with_release traffic release =
    record traffic { releases = traffic.releases ++ release ∷ []; records = traffic.records + 1 }

-- with a record more that belongs to this stream, so many nanoseconds after the first record
abbrev pub with_stream : DeclaredNetwork → ℕ → Traffic → ℕ → Option ℕ → Result Traffic JoinFault
with_stream network nanos traffic octets None =
    Ok (record traffic { records = traffic.records + 1; unidentified = traffic.unidentified + 1 })
with_stream network nanos traffic octets (Some sender) =
    if nat_lt MAX_OCTETS octets
    then Ok (record traffic { records = traffic.records + 1; oversize = traffic.oversize + 1 })
    else release_at (traffic.records + 1) (length traffic.releases) (ports_with network traffic.releases sender) nanos
    sender octets
    >>= λ release. Ok (with_release traffic release)

-- with a record more, of whatever stream
abbrev pub with_record : DeclaredNetwork → ℕ → ℕ → Traffic → Record → Result Traffic JoinFault
with_record network station nanos traffic r =
    with_stream network nanos traffic r.octets (stream_of network station r.identity)

-- with further records, where the first of all has this time and the greatest so far is that: a record that goes back
-- in time is released with the one before
abbrev pub traffic_from : DeclaredNetwork → ℕ → ℕ → ℕ → Traffic → List Record → Result Traffic JoinFault
traffic_from network station first latest traffic [] = Ok traffic
traffic_from network station first latest traffic (r ∷ records) =
    with_record network station (max latest r.nanos - first) traffic r
    >>= λ more. traffic_from network station first (max latest r.nanos) more records

-- the time of the first record, 0 where there is none
abbrev pub first_time : List Record → ℕ
first_time [] = 0
first_time (r ∷ records) = r.nanos

-- what the records of a capture at a station come to, or the first that is over a limit
abbrev pub traffic_of : DeclaredNetwork → ℕ → List Record → Result Traffic JoinFault
traffic_of network station records =
    traffic_from network station (first_time records) (first_time records) no_traffic records
