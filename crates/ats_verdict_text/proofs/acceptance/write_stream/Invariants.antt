use Rattle.std.proofs.Common.{◌≡◌, ◌++◌, take, slice_index_or}
use Rattle.std.specs.List.{flat_map}
use Rattle.ats_network.specs.Edits.{no_stream}
use Rattle.ats_network.specs.Listeners.{listeners_of}
use Rattle.ats_verdict_text.specs.Text.{listener_lines}
use Rattle.ats_verdict_text.proofs.acceptance.write_stream.Given as goal

-- the lines of the listeners so far
abbrev pub invariant-loop-leg : goal.invariant-loop-leg
invariant-loop-leg l =
    l.out.items
    ≡ l.initial.out.items
    ++ flat_map (listener_lines l.delays.network.topology l.delays.rows (slice_index_or l.delays.network.streams
    l.stream no_stream)) (take l.leg (listeners_of l.delays.network.topology (slice_index_or l.delays.network.streams
    l.stream no_stream)))
