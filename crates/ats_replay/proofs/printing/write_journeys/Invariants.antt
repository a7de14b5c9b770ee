use Rattle.std.proofs.Common.{◌≡◌, ◌++◌, take}
use Rattle.std.specs.List.{enumerate_from, flat_map}
use Rattle.ats_replay.specs.Departures.{journey_text}
use Rattle.ats_replay.proofs.printing.write_journeys.Given as goal

-- the text has the lines of the frames so far
abbrev pub invariant-loop-frame : goal.invariant-loop-frame
invariant-loop-frame l = l.out.items
    ≡ l.initial.out.items ++ flat_map (journey_text l.network) (take l.frame (enumerate_from 0 l.run))
