use Rattle.std.proofs.Common.{◌≡◌, ◌++◌, drop}
use Rattle.std.specs.List.{flat_map}
use Rattle.ats_trace.specs.Projections.{crossings_from}
use Rattle.ats_buffer.specs.Moments.{moments_of, moments_in}
use Rattle.ats_buffer.proofs.moments.moments_by_frame.Given as goal

-- the moments so far, and those of the frames that are left, are those of the run
abbrev pub invariant-loop-frame : goal.invariant-loop-frame
invariant-loop-frame l =
    l.moments.items ++ flat_map moments_of (crossings_from l.network l.frame (drop l.frame l.run))
    ≡ moments_in l.network l.run
