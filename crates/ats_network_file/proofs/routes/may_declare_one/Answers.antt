use Rattle.ats_network.proofs.PathLemmas.{walk_ports}
use Rattle.ats_network_file.proofs.routes.may_declare_one.Goals as goal

pub joins_stations-requires-clause-ports : goal.joins_stations-requires-clause-ports
joins_stations-requires-clause-ports c =
    walk_ports c.args.topology.now.ports c.requires.talker c.args.path.now c.requires.listener c.requires.walk

pub joins_stations-requires-in-Two-clause-ports : goal.joins_stations-requires-in-Two-clause-ports
joins_stations-requires-in-Two-clause-ports c =
    walk_ports c.args.topology.now.ports c.requires.talker c.args.path.now c.requires.listener c.requires.walk
