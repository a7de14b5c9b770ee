use Rattle.std.proofs.Common.{◌≡◌, ◌++◌, take}
use Rattle.std.specs.List.{flat_map, zip}
use Rattle.ats_replay.specs.Departures.{hop_line}
use Rattle.ats_replay.proofs.journey.write_hops.Given as goal

-- the text has the lines of the hops so far
abbrev pub invariant-loop-place : goal.invariant-loop-place
invariant-loop-place l = l.out.items
    ≡ l.initial.out.items ++ flat_map (hop_line l.topology) (zip l.path (take l.place l.hops))
