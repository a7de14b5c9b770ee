use Rattle.std.specs.Prelude.{◌≡◌, ℕ, List, [], ◌∷◌, ◌++◌}
use Rattle.ats_trace.specs.Journey.{Travel}
use Rattle.ats_examples.specs.Runs.{hop, sunk}
use Rattle.ats_port_capture.specs.Capture.{IsCapture}
use Rattle.ats_port_capture.specs.Frame.{untagged}
use Rattle.ats_port_capture_law.specs.Worked.{at_start, front_bytes, header_bytes, stream_bytes}
use Rattle.ats_sender_examples.specs.Senders.{three_senders}

-- a frame of each sender, released together: 1522 octets of the first stream, 64 of the second, and 68 of the flow
abbrev pub one_of_each : List Travel
one_of_each =
    sunk 0 0 1522 (hop 0 0 0 12336000 ∷ hop 13836000 13836000 13836000 26172000 ∷ []) 26672000
    ∷ sunk 0 1 64 (hop 0 0 12336000 13008000 ∷ hop 14508000 14508000 26172000 26844000 ∷ []) 27344000
    ∷ sunk 0 2 68 (hop 0 0 13008000 13712000 ∷ hop 15212000 15212000 26844000 27548000 ∷ []) 28048000
    ∷ []

-- the second at 12336 ns, with 60 octets, its own address, class 5 and VLAN identifier 300
abbrev pub second_bytes : List ℕ
second_bytes =
    0 ∷ 0 ∷ 0 ∷ 0 ∷ 0x30 ∷ 0x30 ∷ 0 ∷ 0 ∷ 18 ∷ 0 ∷ 0 ∷ 0 ∷ 60 ∷ 0 ∷ 0 ∷ 0
    ∷ 2 ∷ 0 ∷ 0 ∷ 0 ∷ 0 ∷ 2 ∷ 2 ∷ 0 ∷ 0 ∷ 0 ∷ 0 ∷ 0 ∷ 0x81 ∷ 0 ∷ 0xA1 ∷ 0x2C ∷ 0x88 ∷ 0xB5 ∷ []

-- the flow's at 13008 ns, with 64 octets, the number 2, and no tag
abbrev pub third_bytes : List ℕ
third_bytes =
    0 ∷ 0 ∷ 0 ∷ 0 ∷ 0xD0 ∷ 0x32 ∷ 0 ∷ 0 ∷ 14 ∷ 0 ∷ 0 ∷ 0 ∷ 64 ∷ 0 ∷ 0 ∷ 0
    ∷ 6 ∷ 0 ∷ 0 ∷ 0 ∷ 0 ∷ 2 ∷ 2 ∷ 0 ∷ 0 ∷ 0 ∷ 0 ∷ 0 ∷ 0x88 ∷ 0xB5 ∷ []

abbrev pub captured : List ℕ
captured = header_bytes ++ (front_bytes at_start 18 ++ stream_bytes 0xC0) ++ second_bytes ++ third_bytes

-- the capture of the station's port; and all four bytes of a sender's number
pub record SendersAreCaptured : Type 0 where
  pub each : IsCapture three_senders one_of_each 0 captured
  pub number : untagged 0x01020304
      ≡ 6 ∷ 0 ∷ 1 ∷ 2 ∷ 3 ∷ 4 ∷ 2 ∷ 0 ∷ 0 ∷ 0 ∷ 0 ∷ 0 ∷ 0x88 ∷ 0xB5 ∷ []
