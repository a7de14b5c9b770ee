use Rattle.std.proofs.Common.{subst}
use Rattle.ats_network.specs.Network.{IsNetwork, network_within}
use Rattle.ats_network.proofs.Edited.{streams_apart, without_network}
use Rattle.ats_network.proofs.network.Network.take_stream.Goals as goal

pub take-requires-clause-names : goal.take-requires-clause-names
take-requires-clause-names c =
    streams_apart (network_within c.self.inside.shape c.self.inside.most_ports c.self.inside.stream_table
    c.self.inside.flow_table)
    c.self.invariant

pub invariant_of-self : goal.invariant_of-self
invariant_of-self c =
    rw c.take.ensures.streams
    (without_network (network_within c.self.inside.shape c.self.inside.most_ports c.self.inside.stream_table
    c.self.inside.flow_table)
    c.args.name.now c.self.invariant)

pub returns-clause-rules : goal.returns-clause-rules
returns-clause-rules c = subst IsNetwork c.self.view_is c.self.invariant
