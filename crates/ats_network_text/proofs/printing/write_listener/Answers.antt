use Rattle.std.proofs.Common.{List, ℕ, sym, subst, ◌∙◌}
use Rattle.ats_topology.specs.Walks.{ArePorts}
use Rattle.ats_network_text.proofs.Legs.{ports_of_leg, ports_of_route}
use Rattle.ats_network_text.proofs.printing.write_listener.Goals as goal

pub station_of-station-requires-clause-ports : goal.station_of-station-requires-clause-ports
station_of-station-requires-clause-ports c =
    subst (λ (ports : List ℕ). ArePorts c.args.topology.now.ports ports)
    (sym (c.as_slice.ensures.value ∙ c.route-route.ensures.value))
    (ports_of_route c.args.topology.now.ports c.args.stream.now.ports c.args.stream.now.branches c.args.leg
    c.requires.ports c.requires.leg)

pub write_path-requires : goal.write_path-requires
write_path-requires c =
    subst (λ (ports : List ℕ). ArePorts c.args.topology.now.ports ports) (sym c.leg.ensures.value)
    (ports_of_leg c.args.topology.now.ports c.args.stream.now.ports c.args.stream.now.branches c.args.leg
    c.requires.ports)
