use Rattle.std.proofs.Common.{◌≡◌, ◌++◌, take, slice_index_or}
use Rattle.std.specs.List.{flat_map}
use Rattle.ats_network.specs.Edits.{no_stream}
use Rattle.ats_network.specs.Listeners.{listeners_of}
use Rattle.ats_explain_text.specs.Text.{listener_lines}
use Rattle.ats_explain_text.proofs.printing.write_stream.Given as goal

-- the lines of the listeners so far
abbrev pub invariant-loop-leg : goal.invariant-loop-leg
invariant-loop-leg l =
    l.out.items
    ≡ l.initial.out.items
    ++ flat_map (listener_lines l.explanation (slice_index_or l.explanation.streams l.stream no_stream))
    (take l.leg (listeners_of l.explanation.topology (slice_index_or l.explanation.streams l.stream no_stream)))
