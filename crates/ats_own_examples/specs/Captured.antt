use Rattle.std.specs.Prelude.{ℕ, List, [], ◌∷◌, ◌++◌}
use Rattle.ats_port_capture.specs.Capture.{IsCapture}
use Rattle.ats_port_capture_law.specs.Worked.{at_start, front_bytes, header_bytes, sender_bytes}
use Rattle.ats_examples.specs.OwnFrames.{own, own_frames}

-- Captures of ports, where frames begin or end at bridges.

-- the record of a frame of 64 octets of the sender with this number, which has no address
abbrev pub small_bytes : List ℕ → ℕ → List ℕ
small_bytes time sender = time ++ 14 ∷ 0 ∷ 0 ∷ 0 ∷ 60 ∷ 0 ∷ 0 ∷ 0 ∷ sender_bytes sender

-- the times 672 ns and 14508 ns
abbrev pub at_672 : List ℕ
at_672 = 0 ∷ 0 ∷ 0 ∷ 0 ∷ 0xA0 ∷ 2 ∷ 0 ∷ 0 ∷ []

abbrev pub at_14508 : List ℕ
at_14508 = 0 ∷ 0 ∷ 0 ∷ 0 ∷ 0xAC ∷ 0x38 ∷ 0 ∷ 0 ∷ []

-- the capture of the bridge's port has the frame that the bridge sends itself, and that of the station's port the one
-- that ends at the bridge, each before the frame of the stream over both ports; nothing went back
pub record OwnFramesAreCaptured : Type 0 where
  pub of_bridge : IsCapture own own_frames 2
      (header_bytes ++ small_bytes at_start 1 ++ front_bytes at_14508 14 ++ sender_bytes 0)
  pub to_bridge : IsCapture own own_frames 0
      (header_bytes ++ small_bytes at_start 2 ++ front_bytes at_672 14 ++ sender_bytes 0)
  pub back : IsCapture own own_frames 1 header_bytes
