use Rattle.std.specs.Prelude.{ℕ, List, [], map, slice_index_or}
use Rattle.ats_streams.specs.declared.traffic.Declared.{Declared}
use Rattle.ats_group.specs.declared.member.Member.{Member}
use Rattle.ats_group.specs.declared.verdict.Verdict.{Verdict}
use Rattle.ats_group.specs.Group.{Offer, first, verdicts_of}
use Rattle.ats_shape.specs.Shape.{DeclaredShape}
use Rattle.ats_shape.specs.declared.shape.ShapeStream.{ShapeStream}
use Rattle.ats_shape.specs.declared.shape.ShapeFrame.{ShapeFrame}

-- stands in a list's place where there is none
abbrev pub no_stream : ShapeStream
no_stream = record { name = []; declared = record { rate = 0; burst_bits = 0; min_octets = 0; max_octets = 0 } }

-- what is declared of the stream with this number
abbrev pub declared_in : List ShapeStream → ℕ → Declared
declared_in streams stream = (slice_index_or streams stream no_stream).declared

-- the frame as it comes to the group
abbrev pub offer_of : ShapeFrame → Offer
offer_of frame = record { member = frame.stream; arrival = frame.at.0; octets = frame.octets }

-- the verdicts on all frames: those of one group, whose members are the streams
abbrev pub verdicts_on : DeclaredShape → List Verdict
verdicts_on shape = verdicts_of (declared_in shape.streams) shape.residence_ns (first (declared_in shape.streams))
    (map offer_of shape.frames)

-- the stream as a member of the group
abbrev pub member_of : ShapeStream → Member
member_of stream = record { group = 0; declared = stream.declared }
