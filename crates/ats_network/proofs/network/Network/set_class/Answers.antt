use Rattle.std.proofs.Common.{◌<◌, length, ap, arith}
use Rattle.ats_network.specs.Network.{DeclaredNetwork, network_within}
use Rattle.ats_network.proofs.Edited.{classed_network}
use Rattle.ats_network.proofs.network.Network.set_class.Goals as goal

pub invariant_of-self : goal.invariant_of-self
invariant_of-self c =
    let inside : DeclaredNetwork =
    network_within c.self.inside.shape c.self.inside.most_ports c.self.inside.stream_table c.self.inside.flow_table in
    let within : c.args.stream < length inside.streams =
    omega (arith, c.requires.stream, ap (λ (n : DeclaredNetwork). length n.streams) c.self.view_is) in
    rw c.set_class.ensures (classed_network inside c.args.stream c.args.class c.self.invariant within c.requires.class)
