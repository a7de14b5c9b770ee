use Rattle.std.specs.Prelude.{ℕ, List, [], ◌∷◌, ◌++◌}
use Rattle.ats_examples.specs.Networks.{line_and_flow}
use Rattle.ats_examples.specs.Runs.{behind_a_flow}
use Rattle.ats_port_capture.specs.Capture.{IsCapture}
use Rattle.ats_port_capture_law.specs.Worked.{at_start, front_bytes, header_bytes, sender_bytes}

-- 12336 ns
abbrev pub at_12336 : List ℕ
at_12336 = 0 ∷ 0 ∷ 0 ∷ 0 ∷ 0x30 ∷ 0x30 ∷ 0 ∷ 0 ∷ []

-- frame 0 is of sender 1, the flow, and frame 1 of sender 0, the stream: a capture tells of senders, and not of frames
abbrev pub SenderIsCaptured : Type 0
SenderIsCaptured = IsCapture line_and_flow behind_a_flow 0
    (header_bytes ++ front_bytes at_start 14 ++ sender_bytes 1 ++ front_bytes at_12336 14 ++ sender_bytes 0)
