use Rattle.std.specs.Prelude.{◌≡◌, [], ◌∷◌}
use Rattle.ats_port_capture.specs.Capture.{header}

-- a port's capture begins with the magic number for nanoseconds, version 2.4, a zone and an accuracy of 0, the most
-- bytes of a record, 262144, and link type 1, each with its lowest byte first
abbrev pub HeaderIsTraced : Type 0
HeaderIsTraced = header
    ≡ 0x4D ∷ 0x3C ∷ 0xB2 ∷ 0xA1 ∷ 2 ∷ 0 ∷ 4 ∷ 0 ∷ 0 ∷ 0 ∷ 0 ∷ 0 ∷ 0 ∷ 0 ∷ 0 ∷ 0
    ∷ 0 ∷ 0 ∷ 4 ∷ 0 ∷ 1 ∷ 0 ∷ 0 ∷ 0 ∷ []
