use Rattle.std.proofs.Common.{sym, ◌∙◌}
use Rattle.ats_capture.proofs.Traffics.{found_within}
use Rattle.ats_capture.proofs.record.stream_of.Goals as goal

-- a stream that is found is one of the senders
pub talker_of-requires : goal.talker_of-requires
talker_of-requires c =
    found_within c.args.network.now (c.in_ok-address.address, c.in_ok-address.vlan) c.in_ok-stream.stream
    (sym c.stream_identified.ensures.number ∙ c.in_ok-stream.was)

pub returns-clause-within : goal.returns-clause-within
returns-clause-within c =
    found_within c.args.network.now (c.in_ok-address.address, c.in_ok-address.vlan) c.in_ok-stream.stream
    (sym c.stream_identified.ensures.number ∙ c.in_ok-stream.was)
