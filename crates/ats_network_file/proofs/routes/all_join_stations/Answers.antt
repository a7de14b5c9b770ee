use Rattle.std.proofs.Common.{ℕ, ap, sym, subst, ◌∙◌}
use Rattle.std.specs.Global.{Vec}
use Rattle.ats_facts.proofs.Lists.{all_unmapped}
use Rattle.ats_network.specs.Path.{IsValidPath}
use Rattle.ats_network.proofs.PathLemmas.{walk_ports}
use Rattle.ats_network_file.proofs.routes.all_join_stations.Goals as goal

-- the path of this turn is valid
valid : (c : goal.After-deref) → IsValidPath c.args.topology.now c.deref.result.now
valid c =
    subst (IsValidPath c.args.topology.now)
    (ap (λ (v : Vec ℕ). v.items) (sym c.path-item.is) ∙ sym c.deref.ensures.value)
    (all_unmapped (IsValidPath c.args.topology.now) (λ (v : Vec ℕ). v.items) c.args.paths.now c.requires
    c.loop-path.path-index c.path-item.result c.loop-path-test.true)

pub joins_stations-requires-clause-some : goal.joins_stations-requires-clause-some
joins_stations-requires-clause-some c = (valid c).some

pub joins_stations-requires-clause-ports : goal.joins_stations-requires-clause-ports
joins_stations-requires-clause-ports c =
    walk_ports c.args.topology.now.ports (valid c).talker c.deref.result.now (valid c).listener (valid c).walk
