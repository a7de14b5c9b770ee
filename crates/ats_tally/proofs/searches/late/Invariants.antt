use Rattle.std.proofs.Common.{◌≡◌, drop, get_or}
use Rattle.ats_network.specs.Edits.{no_stream}
use Rattle.ats_network.specs.Listeners.{listeners_of}
use Rattle.ats_tally.specs.Reason.{first_some, late, late_for}
use Rattle.ats_tally.proofs.searches.late.Given as goal

-- what is found first is among the listeners still to come
abbrev pub invariant-loop-leg : goal.invariant-loop-leg
invariant-loop-leg l =
    late l.delays.network.topology l.delays.rows (get_or l.delays.network.streams l.stream no_stream)
    ≡ first_some (late_for l.delays.rows (get_or l.delays.network.streams l.stream no_stream))
    (drop l.leg (listeners_of l.delays.network.topology (get_or l.delays.network.streams l.stream no_stream)))
