use Rattle.std.specs.Prelude.{◌≡◌, ℕ, ◌+◌, List, [], ◌∷◌, codes, Option, Some, None, Ok, Err}
use Rattle.ats_topology.specs.Topology.{topology_of}
use Rattle.ats_streams.specs.Stream.{declared_stream}
use Rattle.ats_network.specs.Network.{DeclaredNetwork, declared_network}
use Rattle.ats_pcap.specs.declared.record.Record.{Record}
use Rattle.ats_capture.specs.Traffic.{Traffic, traffic_of}
use Rattle.ats_capture.specs.declared.fault.JoinFault.TheVariants.{Limit}
use Rattle.ats_capture_law.specs.Counted.{counted_unless}
use Rattle.ats_examples.specs.Networks.{line_nodes, line_links}
use Rattle.ats_verdict_examples.specs.Networks.{release}

-- Records of a capture at a station of the line, and what they come to.

-- the line, whose stream has this destination address and VLAN identifier
abbrev pub identified : DeclaredNetwork
identified = declared_network (topology_of line_nodes line_links)
    (declared_stream (codes "a") (0 ∷ 2 ∷ []) (6 ∷ 6 ∷ []) 100000000 12336 64 1522 1000000 (Some (1, 5)) ∷ []) []

-- a record so many nanoseconds after the first one
abbrev pub captured : ℕ → ℕ → Option (ℕ × ℕ) → Record
captured nanos octets identity = record { nanos = 1000000000 + nanos; octets = octets; identity = identity }

-- a frame of the stream, one of no stream, one that is longer than a frame, and one that goes back in time
abbrev pub four : List Record
four =
    captured 0 64 (Some (1, 5)) ∷ captured 500 100 None ∷ captured 1000 2001 (Some (1, 5))
    ∷ captured 900 128 (Some (1, 5)) ∷ []

-- what they come to at the talker: the last is released with the one before
abbrev pub at_talker : Traffic
at_talker =
    record { releases = release 0 0 64 ∷ release 1000000 0 128 ∷ []; records = 4; unidentified = 1; oversize = 1 }

-- and at the listener, where no stream begins
abbrev pub at_listener : Traffic
at_listener = record { releases = []; records = 4; unidentified = 4; oversize = 0 }

-- a frame of the stream and one 1 ns after the greatest time of a release, or just then
abbrev pub until : ℕ → List Record
until nanos = captured 0 64 (Some (1, 5)) ∷ captured nanos 64 (Some (1, 5)) ∷ []

-- records of no stream, and one longer than a frame, before those of the stream: the first record of all is the first
-- time, and one that goes back in time is released with the latest of all, however far it goes
abbrev pub others_first : List Record
others_first =
    captured 0 100 None ∷ captured 500 64 (Some (1, 5)) ∷ captured 1000 100 None ∷ captured 900 128 (Some (1, 5)) ∷ []

abbrev pub back_to_start : List Record
back_to_start =
    captured 700 2001 (Some (1, 5)) ∷ record { nanos = 999999999; octets = 64; identity = Some (1, 5) } ∷ []

-- a record of no stream, one of the stream, and one of it that is too late: its number is among all records
abbrev pub late_third : List Record
late_third = captured 0 100 None ∷ until 100000000000001

-- what they come to one after another is what all of them come to
pub record CapturesAreMet : Type 0 where
  pub talker : traffic_of identified 0 four ≡ Ok at_talker
  pub talker_counted : counted_unless identified 0 four ≡ Ok at_talker
  pub listener : traffic_of identified 1 four ≡ Ok at_listener
  pub listener_counted : counted_unless identified 1 four ≡ Ok at_listener
  pub over : traffic_of identified 0 (until 100000000000001) ≡ Err (Limit 2)
  pub over_counted : counted_unless identified 0 (until 100000000000001) ≡ Err (Limit 2)
  pub over_behind : traffic_of identified 0 late_third ≡ Err (Limit 3)
  pub over_behind_counted : counted_unless identified 0 late_third ≡ Err (Limit 3)
  pub last : traffic_of identified 0 (until 100000000000000) ≡ Ok (record {
    releases = release 0 0 64 ∷ release 100000000000000000 0 64 ∷ [];
    records = 2;
    unidentified = 0;
    oversize = 0;
  })
  pub since_others : traffic_of identified 0 others_first ≡ Ok (record {
    releases = release 500000 0 64 ∷ release 1000000 0 128 ∷ [];
    records = 4;
    unidentified = 2;
    oversize = 0;
  })
  pub at_start : traffic_of identified 0 back_to_start
      ≡ Ok (record { releases = release 0 0 64 ∷ []; records = 2; unidentified = 0; oversize = 1 })
  pub none : traffic_of identified 0 []
      ≡ Ok (record { releases = []; records = 0; unidentified = 0; oversize = 0 })
