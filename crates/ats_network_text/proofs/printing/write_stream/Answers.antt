use Rattle.std.proofs.Common.{List, ℕ, sym, subst}
use Rattle.ats_topology.specs.Walks.{ArePorts}
use Rattle.ats_network_text.proofs.Legs.{ports_of_leg}
use Rattle.ats_network_text.proofs.printing.write_stream.Goals as goal

pub write_sender-requires : goal.write_sender-requires
write_sender-requires c =
    subst (λ (ports : List ℕ). ArePorts c.args.topology.now.ports ports) (sym c.leg.ensures.value)
    (ports_of_leg c.args.topology.now.ports c.args.stream.now.ports c.args.stream.now.branches 0 c.requires)
