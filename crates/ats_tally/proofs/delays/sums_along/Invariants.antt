use Rattle.std.proofs.Common.{◌≡◌, take}
use Rattle.std.specs.List.{flat_map}
use Rattle.ats_certificate.specs.Certificate.{sums_of}
use Rattle.ats_tally.proofs.delays.sums_along.Given as goal

-- the sums for the listeners of the streams so far
abbrev pub invariant-loop-stream : goal.invariant-loop-stream
invariant-loop-stream l = l.sums.items ≡ flat_map (sums_of l.bounds.rows) (take l.stream-index l.network.streams)
