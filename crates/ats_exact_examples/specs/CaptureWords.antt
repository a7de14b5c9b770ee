use Rattle.std.specs.Prelude.{◌≡◌, ℕ, suc, ◌+◌, ◌-◌, ◌*◌, ◌/◌, ◌%◌, ◌==◌, ◌&&◌, ◌||◌, nat_le, nat_lt, max, List, []}
use Rattle.std.specs.Prelude.{◌∷◌}
use Rattle.std.specs.Prelude.{◌++◌, length, take, drop, Some, None, Ok, Err, if◌then◌else◌, slice_get}
use Rattle.std.specs.Int.{from_be_bytes, from_le_bytes, to_be_bytes, to_le_bytes, w16, w32, w64}
use Rattle.std.specs.List.{flat_map}
use Rattle.std.specs.Option.{option_and_then}
use Rattle.ats_num.specs.Failure.{◌>>=◌, ok_where}
use Rattle.ats_streams.specs.Stream.{DeclaredStream}
use Rattle.ats_network.specs.Network.{DeclaredNetwork}
use Rattle.ats_network.specs.Pushes.{place_identified}
use Rattle.ats_network.specs.Senders.{sender_at}
use Rattle.ats_port_rule.specs.Transmission.{Transmission}
use Rattle.ats_trace.specs.Journey.{Travel}
use Rattle.ats_trace.specs.Releases.{ports_of_frames}
use Rattle.ats_trace.specs.Stored.{travel_at}
use Rattle.ats_trace.specs.Talker.{talker_of}
use Rattle.ats_trace.specs.declared.journey.Release.{Release}
use Rattle.ats_pcap.specs.Capture as pcap
use Rattle.ats_pcap.specs.Identity as read
use Rattle.ats_pcap.specs.Numbers.{number16, number32}
use Rattle.ats_pcap.specs.declared.fault.CaptureFault.TheVariants as fault
use Rattle.ats_pcap.specs.declared.form.ByteOrder.TheVariants.{HighFirst, LowFirst}
use Rattle.ats_pcap.specs.declared.form.Form.{Form}
use Rattle.ats_pcap.specs.declared.form.Fraction.TheVariants.{Microseconds, Nanoseconds}
use Rattle.ats_pcap.specs.declared.record.Record.{Record}
use Rattle.ats_capture.specs.Reading.{of_file, records_in}
use Rattle.ats_capture.specs.Traffic as traffic
use Rattle.ats_capture.specs.declared.fault.JoinFault.TheVariants.{Limit}
use Rattle.ats_capture.specs.declared.fault.RecordsFault.TheVariants as file
use Rattle.ats_port_capture.specs.Capture as written
use Rattle.ats_port_capture.specs.Frame as frame
use Rattle.ats_port_capture.specs.Numbers as numbers

-- The bytes of captures, read and written, and what their records come to, written out for all bytes and numbers.

-- the numbers of a capture, its header, and the first fault that this shows
pub record HeadersAreMeant : Type 0 where
  pub low32 : (place : ℕ) (bytes : List ℕ) → number32 LowFirst place bytes
      ≡ from_le_bytes w32 (take 4 (drop place bytes))
  pub high32 : (place : ℕ) (bytes : List ℕ) → number32 HighFirst place bytes
      ≡ from_be_bytes w32 (take 4 (drop place bytes))
  pub low16 : (place : ℕ) (bytes : List ℕ) → number16 LowFirst place bytes
      ≡ from_le_bytes w16 (take 2 (drop place bytes))
  pub high16 : (place : ℕ) (bytes : List ℕ) → number16 HighFirst place bytes
      ≡ from_be_bytes w16 (take 2 (drop place bytes))
  pub magic : (n : ℕ) → pcap.is_magic n ≡ ((n == 0xA1B2C3D4) || (n == 0xA1B23C4D))
  pub order : (bytes : List ℕ) → pcap.order_of bytes
      ≡ (if pcap.is_magic (number32 LowFirst 0 bytes) then LowFirst else HighFirst)
  pub form : (bytes : List ℕ) → pcap.form_of bytes ≡ record {
    order = pcap.order_of bytes;
    fraction = if number32 (pcap.order_of bytes) 0 bytes == 0xA1B23C4D then Nanoseconds else Microseconds;
  }
  pub micros : pcap.nanos_of Microseconds ≡ 1000
  pub nanos : pcap.nanos_of Nanoseconds ≡ 1
  pub first : (bytes : List ℕ) → pcap.magic_fault bytes
      ≡ (if nat_lt (length bytes) 4 then None
      else if number32 HighFirst 0 bytes == 0x0A0D0D0A then Some fault.PcapNg
      else if pcap.is_magic (number32 (pcap.order_of bytes) 0 bytes) then None else Some fault.BadMagic)
  pub second : (bytes : List ℕ) → pcap.version_fault bytes
      ≡ (if nat_lt (length bytes) 8 then None
      else if (number16 (pcap.order_of bytes) 4 bytes == 2) && (number16 (pcap.order_of bytes) 6 bytes == 4) then None
      else Some fault.BadVersion)
  pub third : (bytes : List ℕ) → pcap.link_fault bytes
      ≡ (if nat_lt (length bytes) 24 then None
      else if number32 (pcap.order_of bytes) 20 bytes == 1 then None
      else Some fault.BadLink)
  pub all : (bytes : List ℕ) → pcap.header_fault bytes
      ≡ pcap.first_fault (pcap.magic_fault bytes) (pcap.first_fault (pcap.version_fault bytes) (pcap.link_fault bytes))

-- the records, one by one, and where a capture may end
pub record RecordsAreMeant : Type 0 where
  pub captured : (form : Form) (bytes : List ℕ) → pcap.captured_of form bytes ≡ number32 form.order 8 bytes
  pub made : (form : Form) (bytes : List ℕ) → pcap.record_of form bytes ≡ record {
    nanos = number32 form.order 0 bytes * 1_000_000_000 + number32 form.order 4 bytes * pcap.nanos_of form.fraction;
    octets = max (number32 form.order 12 bytes) 60 + 4;
    identity = read.identity_of (take (pcap.captured_of form bytes) (drop 16 bytes));
  }
  pub refused : (form : Form) (before there : ℕ) (bytes : List ℕ) → pcap.record_fault form before there bytes
      ≡ (if there == 0 then None
      else if before == 1_000_000 then Some (fault.Limit 1_000_001)
      else if nat_lt there 16 then None
      else if nat_lt 262_144 (pcap.captured_of form bytes) then Some (fault.RecordTooLong (before + 1))
      else None)
  pub whole : (form : Form) (there : ℕ) (bytes : List ℕ) → pcap.is_whole form there bytes
      ≡ (nat_le 16 there && nat_le (16 + pcap.captured_of form bytes) there)
  pub next : (form : Form) (reach : pcap.Reach) → pcap.past_record form reach ≡ record {
    records = reach.records ++ pcap.record_of form reach.rest ∷ [];
    rest = drop (16 + pcap.captured_of form reach.rest) reach.rest;
  }
  pub no_turn : (form : Form) (reach : pcap.Reach) → pcap.read_on 0 form reach ≡ Ok reach
  pub turn : (turns : ℕ) (form : Form) (reach : pcap.Reach) → pcap.read_on (suc turns) form reach
      ≡ pcap.without (pcap.record_fault form (length reach.records) (length reach.rest) reach.rest)
      (if pcap.is_whole form (length reach.rest) reach.rest
      then pcap.read_on turns form (pcap.past_record form reach) else Ok reach)
  pub end : (bytes : List ℕ) → pcap.position_of bytes
      ≡ pcap.without (pcap.header_fault bytes)
      (pcap.read_on (length bytes) (pcap.form_of bytes) (record { records = []; rest = drop 24 bytes })
      >>= λ reach. Ok (record {
        header = take 24 bytes;
        records = reach.records;
        there = length reach.rest;
        front = take 32 reach.rest;
      }))
  pub complete : (end : pcap.Position) → pcap.records_at end
      ≡ (if nat_lt (length end.header) 24 then Err (fault.CutShort 0)
      else if end.there == 0 then Ok end.records
      else Err (fault.CutShort (length end.records + 1)))
  pub records : (bytes : List ℕ) → pcap.records_of bytes ≡ pcap.position_of bytes >>= pcap.records_at
  pub in_file : (bytes : List ℕ) → records_in bytes
      ≡ (if nat_lt 268435456 (length bytes)
      then (of_file (pcap.position_of (take 268435456 bytes)) >>= (λ _. Err file.TooLong))
      else of_file (pcap.records_of bytes))

-- what identifies a frame
pub record IdentitiesAreMeant : Type 0 where
  pub address : (bytes : List ℕ) → read.address_of bytes ≡ from_be_bytes w64 (0 ∷ 0 ∷ take 6 bytes)
  pub vlan : (bytes : List ℕ) → read.vlan_of bytes ≡ number16 HighFirst 14 bytes % 4096
  pub identity : (bytes : List ℕ) → read.identity_of bytes
      ≡ (if nat_le 16 (length bytes) && (number16 HighFirst 12 bytes == 0x8100)
      then Some (read.address_of bytes, read.vlan_of bytes) else None)

-- what records come to at a station
pub record TrafficIsMeant : Type 0 where
  pub begun : (network : DeclaredNetwork) (station stream : ℕ) → traffic.begun_at network station stream
      ≡ (if talker_of network stream == station then Some stream else None)
  pub no_identity : (network : DeclaredNetwork) (station : ℕ) → traffic.stream_of network station None ≡ None
  pub identity : (network : DeclaredNetwork) (station : ℕ) (identity : ℕ × ℕ)
      → traffic.stream_of network station (Some identity)
      ≡ option_and_then (traffic.begun_at network station) (place_identified identity network.streams)
  pub ports : (network : DeclaredNetwork) (releases : List Release) (sender : ℕ)
      → traffic.ports_with network releases sender
      ≡ ports_of_frames network releases + length (sender_at network sender).ports
  pub release : (number before ports nanos sender octets : ℕ)
      → traffic.release_at number before ports nanos sender octets
      ≡ ok_where (nat_le (nanos * 1000) 100000000000000000 && nat_lt before 200000 && nat_le ports 3200000)
      (Limit number) (record { at = record { 0 = nanos * 1000 }; sender = sender; octets = octets })
  pub unidentified : (network : DeclaredNetwork) (nanos octets : ℕ) (t : traffic.Traffic)
      → traffic.with_stream network nanos t octets None
      ≡ Ok (record t { records = t.records + 1; unidentified = t.unidentified + 1 })
  pub of_stream : (network : DeclaredNetwork) (nanos octets sender : ℕ) (t : traffic.Traffic)
      → traffic.with_stream network nanos t octets (Some sender)
      ≡ (if nat_lt 2000 octets then Ok (record t { records = t.records + 1; oversize = t.oversize + 1 })
      else traffic.release_at (t.records + 1) (length t.releases) (traffic.ports_with network t.releases sender) nanos
      sender octets
      >>= λ release. Ok (record t { releases = t.releases ++ release ∷ []; records = t.records + 1 }))
  pub no_record : (network : DeclaredNetwork) (station first latest : ℕ) (t : traffic.Traffic)
      → traffic.traffic_from network station first latest t [] ≡ Ok t
  pub next_record : (network : DeclaredNetwork) (station first latest : ℕ) (t : traffic.Traffic) (r : Record)
      (records : List Record) → traffic.traffic_from network station first latest t (r ∷ records)
      ≡ (traffic.with_stream network (max latest r.nanos - first) t r.octets
      (traffic.stream_of network station r.identity)
      >>= λ more. traffic.traffic_from network station first (max latest r.nanos) more records)
  pub none : (network : DeclaredNetwork) (station : ℕ)
      → traffic.traffic_of network station []
      ≡ Ok (record { releases = []; records = 0; unidentified = 0; oversize = 0 })
  pub some : (network : DeclaredNetwork) (station : ℕ) (r : Record) (records : List Record)
      → traffic.traffic_of network station (r ∷ records)
      ≡ traffic.traffic_from network station r.nanos r.nanos
      (record { releases = []; records = 0; unidentified = 0; oversize = 0 }) (r ∷ records)

-- the bytes of the capture of a port
pub record CapturesAreMeant : Type 0 where
  pub low16 : (n : ℕ) → numbers.low_first16 n ≡ to_le_bytes w16 n
  pub low32 : (n : ℕ) → numbers.low_first32 n ≡ to_le_bytes w32 n
  pub high16 : (n : ℕ) → numbers.high_first16 n ≡ to_be_bytes w16 n
  pub high32 : (n : ℕ) → numbers.high_first32 n ≡ to_be_bytes w32 n
  pub high48 : (n : ℕ) → numbers.high_first48 n ≡ drop 2 (to_be_bytes w64 n)
  pub kept : (nanos octets : ℕ) (kept : List ℕ) → written.record_bytes nanos octets kept
      ≡ numbers.low_first32 (nanos / 1_000_000_000) ++ numbers.low_first32 (nanos % 1_000_000_000)
      ++ numbers.low_first32 (length kept) ++ numbers.low_first32 octets ++ kept
  pub tagged : (address vlan class : ℕ) → frame.tagged address vlan class
      ≡ numbers.high_first48 address ++ numbers.high_first48 0x020000000000 ++ numbers.high_first16 0x8100
      ++ numbers.high_first16 (class * 8192 + vlan) ++ numbers.high_first16 0x88B5
  pub untagged : (sender : ℕ) → frame.untagged sender
      ≡ numbers.high_first16 0x0600 ++ numbers.high_first32 sender ++ numbers.high_first48 0x020000000000
      ++ numbers.high_first16 0x88B5
  pub with_identity : (identity : ℕ × ℕ) (sender class : ℕ)
      → frame.captured_bytes (Some identity) sender class ≡ frame.tagged identity.0 identity.1 class
  pub without : (sender class : ℕ) → frame.captured_bytes None sender class ≡ frame.untagged sender
  pub identity : (network : DeclaredNetwork) (sender : ℕ) → frame.identity_of network sender
      ≡ option_and_then (λ (stream : DeclaredStream). stream.identity) (slice_get network.streams sender)
  pub sent : (network : DeclaredNetwork) (run : List Travel) (t : Transmission) → written.record_of network run t
      ≡ written.record_bytes (t.start / 1000) ((travel_at run t.frame).release.octets - 4)
      (frame.captured_bytes (frame.identity_of network t.sender) t.sender t.class)
  pub file : (network : DeclaredNetwork) (run : List Travel) (sent : List Transmission)
      → written.capture_of network run sent
      ≡ (numbers.low_first32 0xA1B23C4D ++ numbers.low_first16 2 ++ numbers.low_first16 4 ++ numbers.low_first32 0
      ++ numbers.low_first32 0 ++ numbers.low_first32 262_144 ++ numbers.low_first32 1)
      ++ flat_map (written.record_of network run) sent

pub record CaptureBytesAreMeant : Type 0 where
  pub headers : HeadersAreMeant
  pub records : RecordsAreMeant
  pub identities : IdentitiesAreMeant
  pub traffic : TrafficIsMeant
  pub captures : CapturesAreMeant
