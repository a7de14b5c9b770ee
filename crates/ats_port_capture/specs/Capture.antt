use Rattle.std.specs.Prelude.{◌≡◌, ℕ, ◌-◌, ◌/◌, ◌%◌, ◌<◌, ◌^◌, List, ◌++◌, length, All, IsPermutation}
use Rattle.std.specs.List.{flat_map}
use Rattle.std.specs.List.Sorted.{IsNonDecreasingBy}
use Rattle.ats_num.specs.declared.time.TheConstants.{PS_PER_NS}
use Rattle.ats_network.specs.Network.{DeclaredNetwork}
use Rattle.ats_port_rule.specs.Transmission.{Transmission}
use Rattle.ats_trace.specs.Journey.{Travel}
use Rattle.ats_trace.specs.Projections.{sent_by}
use Rattle.ats_trace.specs.Stored.{travel_at}
use Rattle.ats_port_capture.specs.Frame.{identity_of, captured_bytes}
use Rattle.ats_port_capture.specs.Numbers.{low_first16, low_first32}

-- the header of a capture of Ethernet frames, whose fractions of seconds are nanoseconds: the magic number, version
-- 2.4, the zone and the accuracy of the times, the most bytes of a record, and the link type
unfoldable pub header : List ℕ
header =
    low_first32 0xA1B23C4D ++ low_first16 2 ++ low_first16 4 ++ low_first32 0 ++ low_first32 0
    ++ low_first32 262_144 ++ low_first32 1

-- the record of a frame that was captured at this nanosecond and had so many octets, of which these were kept: the
-- second, the nanosecond in it, how many octets were kept, how many there were, and those that were kept
unfoldable pub record_bytes : ℕ → ℕ → List ℕ → List ℕ
record_bytes nanos octets kept =
    low_first32 (nanos / 1_000_000_000) ++ low_first32 (nanos % 1_000_000_000)
    ++ low_first32 (length kept) ++ low_first32 octets ++ kept

-- the nanosecond in which a transmission started
abbrev pub nanos_of : Transmission → ℕ
nanos_of t = t.start / PS_PER_NS

-- the octets of the frame with a number, counted with its check sequence of 4
abbrev pub octets_of : List Travel → ℕ → ℕ
octets_of run frame = (travel_at run frame).release.octets

-- the record of a transmission: a capture has frames without their check sequences
abbrev pub record_of : DeclaredNetwork → List Travel → Transmission → List ℕ
record_of network run t =
    record_bytes (nanos_of t) (octets_of run t.frame - 4)
    (captured_bytes (identity_of network t.sender) t.sender t.class)

-- the bytes of a capture of these transmissions
abbrev pub capture_of : DeclaredNetwork → List Travel → List Transmission → List ℕ
capture_of network run sent = header ++ flat_map (record_of network run) sent

-- these are all transmissions of a port in a run, in the order in which they started, each in a second whose number has
-- 32 bits
pub record AreInOrder (network : DeclaredNetwork) (run : List Travel) (port : ℕ) (sent : List Transmission)
    : Type 0 where
  pub all : IsPermutation (sent_by network run port) sent
  pub in_order : IsNonDecreasingBy (λ (t : Transmission). t.start) sent
  pub fit : All (λ (t : Transmission). nanos_of t / 1_000_000_000 < 2 ^ 32) sent

-- a file is the capture of a port in a run
pub record IsCapture (network : DeclaredNetwork) (run : List Travel) (port : ℕ) (file : List ℕ) : Type 0 where
  pub sent : List Transmission
  pub ordered : AreInOrder network run port sent
  pub written : file ≡ capture_of network run sent
