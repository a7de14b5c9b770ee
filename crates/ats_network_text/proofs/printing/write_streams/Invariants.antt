use Rattle.std.proofs.Common.{◌≡◌, ◌++◌, take}
use Rattle.std.specs.List.{flat_map}
use Rattle.ats_network_text.specs.Text.{stream_text}
use Rattle.ats_network_text.proofs.printing.write_streams.Given as goal

-- the text has the lines of the streams so far
abbrev pub invariant-loop-stream : goal.invariant-loop-stream
invariant-loop-stream l = l.out.items
    ≡ l.initial.out.items ++ flat_map (stream_text l.network.topology) (take l.stream l.network.streams)
