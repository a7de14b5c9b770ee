use Rattle.std.proofs.Common.{◌≡◌, drop}
use Rattle.ats_tally.specs.Reason.{first_some, late}
use Rattle.ats_tally.proofs.searches.first_late.Given as goal

-- what is found first is among the streams still to come
abbrev pub invariant-loop-stream : goal.invariant-loop-stream
invariant-loop-stream l =
    first_some (late l.delays.network.topology l.delays.rows) l.delays.network.streams
    ≡ first_some (late l.delays.network.topology l.delays.rows) (drop l.stream l.delays.network.streams)
