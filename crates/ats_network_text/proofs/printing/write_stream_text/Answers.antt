use Rattle.std.proofs.lemmas.Result.{on_ok_weaker}
use Rattle.ats_network_text.proofs.Hops.{ports_are, stream_written}
use Rattle.ats_network_text.proofs.printing.write_stream_text.Goals as goal

pub write_stream-requires : goal.write_stream-requires
write_stream-requires c =
    ports_are c.args.network.now c.topology.result.now c.streams.result.now c.args.stream
    c.index-streams-stream.result c.streams.ensures.rules c.topology.ensures.value c.streams.ensures.value
    c.index-streams-stream.is c.requires

pub returns : goal.returns
returns c = on_ok_weaker c.write_rates.result
    (stream_written c.args.network.now c.topology.result.now c.streams.result.now c.args.stream
    c.index-streams-stream.result c.args.out.now.items c.write_stream.new.out.items c.write_rates.new.out.items
    c.topology.ensures.value c.streams.ensures.value c.index-streams-stream.is c.requires c.in_ok-write_stream.ensures)
    c.write_rates.ensures
