use Rattle.std.specs.Prelude.{ℕ, ◌+◌, ◌*◌, ◌≤◌}

-- so many octets make a frame: 64 to 2000, counted with the frame check sequence
pub record IsFrameSize (octets : ℕ) : Type 0 where
  pub least : 64 ≤ octets
  pub most : octets ≤ 2000

-- the wire bits of a frame: preamble and start delimiter add 8 octets, the gap adds 12
abbrev pub bits_of : ℕ → ℕ
bits_of octets = 8 * (octets + 20)
