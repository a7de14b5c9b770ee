use Rattle.std.proofs.Common.{◌≡◌, ◌++◌, take}
use Rattle.std.specs.List.{flat_map}
use Rattle.ats_port_capture.specs.Capture.{header}
use Rattle.ats_port_capture.specs.Sightings.{sighting_record}
use Rattle.ats_port_capture.proofs.capture.file.Given as goal

-- the bytes so far are the header and the records so far
abbrev pub invariant-loop-sighting : goal.invariant-loop-sighting
invariant-loop-sighting l =
    l.out.items ≡ header ++ flat_map (sighting_record l.network) (take l.sighting-index l.sighting-items)
