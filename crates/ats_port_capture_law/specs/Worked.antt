use Rattle.std.specs.Prelude.{◌≡◌, ℕ, List, [], ◌∷◌, ◌++◌, codes, Some, Ok}
use Rattle.ats_topology.specs.Topology.{topology_of}
use Rattle.ats_streams.specs.Stream.{branching_stream, declared_stream}
use Rattle.ats_network.specs.Network.{DeclaredNetwork, declared_network}
use Rattle.ats_pcap.specs.Capture.{records_of}
use Rattle.ats_examples.specs.Networks.{fork, line, line_links, line_nodes}
use Rattle.ats_examples.specs.Runs.{late, long_frame, one_frame, one_frame_at, second_goes_first}
use Rattle.ats_tree_examples.specs.Networks.{branch, split, split_topology}
use Rattle.ats_tree_examples.specs.Runs.{long_split, one_split}
use Rattle.ats_port_capture.specs.Capture.{IsCapture}

-- Captures of worked runs, byte by byte.

-- the line, whose stream has the address 02:00:00:00:00:01, the VLAN identifier 1, and these classes at the two ports
abbrev pub identified : List ℕ → DeclaredNetwork
identified classes = declared_network (topology_of line_nodes line_links)
    (declared_stream (codes "a") (0 ∷ 2 ∷ []) classes 100000000 12336 64 1522 1000000 (Some (0x020000000001, 1)) ∷ [])
    []

-- of class 6 at both, and of class 6 and then 5
abbrev pub of_class : DeclaredNetwork
of_class = identified (6 ∷ 6 ∷ [])

abbrev pub of_classes : DeclaredNetwork
of_classes = identified (6 ∷ 5 ∷ [])

-- the split, whose stream has that address and identifier, class 6 along the trunk, and class 5 at the branch's port
abbrev pub split_of_classes : DeclaredNetwork
split_of_classes = declared_network split_topology
    (branching_stream (codes "a") (0 ∷ 2 ∷ 4 ∷ []) (branch 2 0 1 ∷ []) (6 ∷ 6 ∷ 5 ∷ []) 100000000 12336 64 1522 1000000
    (Some (0x020000000001, 1)) ∷ [])
    []

-- the header: the magic number, the version, zone and accuracy, the most bytes of a record, the link type
abbrev pub header_bytes : List ℕ
header_bytes =
    0x4D ∷ 0x3C ∷ 0xB2 ∷ 0xA1 ∷ 2 ∷ 0 ∷ 4 ∷ 0 ∷ 0 ∷ 0 ∷ 0 ∷ 0 ∷ 0 ∷ 0 ∷ 0 ∷ 0
    ∷ 0 ∷ 0 ∷ 4 ∷ 0 ∷ 1 ∷ 0 ∷ 0 ∷ 0 ∷ []

-- a frame of the stream, whose tag begins with this byte
abbrev pub stream_bytes : ℕ → List ℕ
stream_bytes tag = 2 ∷ 0 ∷ 0 ∷ 0 ∷ 0 ∷ 1 ∷ 2 ∷ 0 ∷ 0 ∷ 0 ∷ 0 ∷ 0 ∷ 0x81 ∷ 0 ∷ tag ∷ 1 ∷ 0x88 ∷ 0xB5 ∷ []

-- a frame of a sender with this number, which declares no address
abbrev pub sender_bytes : ℕ → List ℕ
sender_bytes sender = 6 ∷ 0 ∷ 0 ∷ 0 ∷ 0 ∷ sender ∷ 2 ∷ 0 ∷ 0 ∷ 0 ∷ 0 ∷ 0 ∷ 0x88 ∷ 0xB5 ∷ []

-- in front of them: second and nanosecond, 18 or 14 captured bytes, and 1518 octets
abbrev pub front_bytes : List ℕ → ℕ → List ℕ
front_bytes time captured = time ++ captured ∷ 0 ∷ 0 ∷ 0 ∷ 0xEE ∷ 5 ∷ 0 ∷ 0 ∷ []

-- the times 0, 12336 ns, 13836 ns and 26172 ns, 999999999 ns, and 1 s
abbrev pub at_start : List ℕ
at_start = 0 ∷ 0 ∷ 0 ∷ 0 ∷ 0 ∷ 0 ∷ 0 ∷ 0 ∷ []

abbrev pub at_12336 : List ℕ
at_12336 = 0 ∷ 0 ∷ 0 ∷ 0 ∷ 0x30 ∷ 0x30 ∷ 0 ∷ 0 ∷ []

abbrev pub at_13836 : List ℕ
at_13836 = 0 ∷ 0 ∷ 0 ∷ 0 ∷ 0x0C ∷ 0x36 ∷ 0 ∷ 0 ∷ []

abbrev pub at_26172 : List ℕ
at_26172 = 0 ∷ 0 ∷ 0 ∷ 0 ∷ 0x3C ∷ 0x66 ∷ 0 ∷ 0 ∷ []

abbrev pub before_second : List ℕ
before_second = 0 ∷ 0 ∷ 0 ∷ 0 ∷ 0xFF ∷ 0xC9 ∷ 0x9A ∷ 0x3B ∷ []

abbrev pub at_second : List ℕ
at_second = 1 ∷ 0 ∷ 0 ∷ 0 ∷ 0 ∷ 0 ∷ 0 ∷ 0 ∷ []

-- the capture with one frame of the stream
abbrev pub with_frame : List ℕ → ℕ → List ℕ
with_frame time tag = header_bytes ++ front_bytes time 18 ++ stream_bytes tag

-- and with one of 1523 octets, which the bridge discards; a capture has 1519 of them
abbrev pub before_size : List ℕ
before_size = header_bytes ++ at_start ++ 14 ∷ 0 ∷ 0 ∷ 0 ∷ 0xEF ∷ 5 ∷ 0 ∷ 0 ∷ sender_bytes 0

-- one frame of 1522 octets over the line, captured at each of its ports, and at one that sent nothing; the tag has the
-- class at that port. A start is rounded down to a nanosecond. Of senders without an address the number is told, the
-- one that is sent first goes first, and a frame that is discarded before the port is not told of, while one that the
-- next bridge discards is, for its size or as late. Of a frame over the split, the port in front of the bridge has one
-- record for both listeners, and that of the branch the copy's
pub record PortCapturesAreWorked : Type 0 where
  pub first : IsCapture of_class one_frame 0 (with_frame at_start 0xC0)
  pub second : IsCapture of_class one_frame 2 (with_frame at_13836 0xC0)
  pub back : IsCapture of_class one_frame 1 header_bytes
  pub lowered : IsCapture of_classes one_frame 2 (with_frame at_13836 0xA0)
  pub rounded : IsCapture of_class (one_frame_at 999_999_999_999) 0 (with_frame before_second 0xC0)
  pub next_second : IsCapture of_class (one_frame_at 1_000_000_000_999) 0 (with_frame at_second 0xC0)
  pub by_start : IsCapture fork second_goes_first 2 (header_bytes ++ front_bytes at_13836 14 ++ sender_bytes 1
      ++ front_bytes at_26172 14 ++ sender_bytes 0)
  pub discarded : IsCapture line long_frame 2 header_bytes
  pub late_discarded : IsCapture line late 2 (header_bytes ++ front_bytes at_13836 14 ++ sender_bytes 0)
  pub shared : IsCapture split_of_classes one_split 0 (with_frame at_start 0xC0)
  pub trunk : IsCapture split_of_classes one_split 2 (with_frame at_13836 0xC0)
  pub copied : IsCapture split_of_classes one_split 4 (with_frame at_13836 0xA0)
  pub copy_discarded : IsCapture split long_split 4 header_bytes
  pub before_discard : IsCapture line long_frame 0 before_size
  pub before_late : IsCapture line late 0 (header_bytes ++ front_bytes at_start 14 ++ sender_bytes 0
      ++ front_bytes at_12336 14 ++ sender_bytes 0)
  pub read : records_of (with_frame at_13836 0xA0)
      ≡ Ok (record { nanos = 13836; octets = 1522; identity = Some (0x020000000001, 1) } ∷ [])
