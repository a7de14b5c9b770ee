use Rattle.std.proofs.Common.{◌≡◌, ◌++◌, get_or, take}
use Rattle.ats_network.specs.Edits.{no_stream}
use Rattle.ats_explain.specs.Numbers.{stream_margins}
use Rattle.ats_explain.proofs.margin.push_margins.Given as goal

-- behind what was there, the margins of the listeners so far
abbrev pub invariant-loop-leg : goal.invariant-loop-leg
invariant-loop-leg l = l.margins.items ≡ l.initial.margins.items
    ++ take l.leg (stream_margins l.delays.network (get_or l.delays.network.streams l.stream no_stream))
