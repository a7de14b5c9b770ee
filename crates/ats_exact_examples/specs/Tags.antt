use Rattle.std.specs.Prelude.{◌≡◌, ℕ, ◌+◌, ◌*◌, ◌/◌, ◌%◌, ◌<◌, ◌≤◌, List, [], ◌∷◌, ◌++◌, map, drop, take}
use Rattle.ats_port_capture.specs.Frame.{tagged}
use Rattle.ats_port_capture.specs.Numbers.{high_first48}

-- The tag of a frame that a capture shows.

-- bytes 14 and 15, counted from 0, of a frame of a stream with the VLAN identifier 5 that is sent in a class
abbrev pub tag_in : ℕ → List ℕ
tag_in class = take 2 (drop 14 (tagged 0x020000000001 5 class))

-- behind the two addresses stands the tag, whose priority is the class, whichever it is. Refuses a frame of class 1
-- with priority 0
pub record TagsAreExact : Type 0 where
  pub all : (address vlan class : ℕ) → vlan < 4096 → class ≤ 7 → tagged address vlan class
      ≡ high_first48 address ++ 2 ∷ 0 ∷ 0 ∷ 0 ∷ 0 ∷ 0
      ∷ 0x81 ∷ 0 ∷ (class * 32 + vlan / 256) ∷ (vlan % 256) ∷ 0x88 ∷ 0xB5 ∷ []
  pub each : map tag_in (1 ∷ 2 ∷ 3 ∷ 4 ∷ 5 ∷ 6 ∷ 7 ∷ [])
      ≡ (0x20 ∷ 5 ∷ []) ∷ (0x40 ∷ 5 ∷ []) ∷ (0x60 ∷ 5 ∷ []) ∷ (0x80 ∷ 5 ∷ []) ∷ (0xA0 ∷ 5 ∷ []) ∷ (0xC0 ∷ 5 ∷ [])
      ∷ (0xE0 ∷ 5 ∷ []) ∷ []
