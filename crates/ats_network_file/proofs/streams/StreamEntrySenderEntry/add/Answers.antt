use Rattle.std.proofs.Common.{rules}
use Rattle.ats_network.specs.Pushes.{with_stream, stream_push_fault}
use Rattle.ats_network_file.proofs.streams.StreamEntrySenderEntry.add.Goals as goal

pub returns-in-Err : goal.returns-in-Err
returns-in-Err c =
    let due = c.refused.ensures (stream_push_fault c.args.network.now c.in_ok-stream.stream)
    (with_stream c.args.network.now c.in_ok-stream.stream) c.in-Err.ensures.fault in
    search rules
