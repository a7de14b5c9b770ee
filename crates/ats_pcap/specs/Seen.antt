use Rattle.std.specs.Prelude.{◌≡◌, List, ℕ, ◌++◌, Option, Some, None, Ok}
use Rattle.ats_num.specs.declared.failure.Failure.{Failure}
use Rattle.ats_pcap.specs.Capture.{Position, position_of}
use Rattle.ats_pcap.specs.Inside.{IsOpen}
use Rattle.ats_pcap.specs.declared.fault.CaptureFault.{CaptureFault}
use Rattle.ats_pcap.specs.declared.progress.Progress.{Progress}

-- what is kept of a capture, as the position that it stands for
abbrev pub seen : Progress → Position
seen p = record { header = p.header; records = p.records.items; there = p.there; front = p.front }

-- what was read of a piece, and what is left of it: a position between two bytes, and for all bytes that ended at the
-- old one, these and the part of the piece before the rest end at the new one
pub record Follows (old new : Position) (piece rest : List ℕ) : Type 0 where
  pub between : IsOpen new
  pub done : List ℕ
  pub whole : done ++ rest ≡ piece
  pub reads : (bytes : List ℕ) → position_of bytes ≡ Ok old → position_of (bytes ++ done) ≡ Ok new

-- the position is between two bytes, unless reading stopped
abbrev pub OpenUnless : Option (Failure CaptureFault) → Position → Type 0
OpenUnless None position = IsOpen position
OpenUnless (Some failure) position = Unit {0}
