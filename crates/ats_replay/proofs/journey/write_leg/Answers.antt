use Rattle.ats_trace.specs.Stored.{travel_at}
use Rattle.ats_replay.proofs.Legs.{leg_fits, leg_listed, leg_ports}
use Rattle.ats_replay.proofs.journey.write_leg.Goals as goal

pub sender_leg-path-requires-clause-leg : goal.sender_leg-path-requires-clause-leg
sender_leg-path-requires-clause-leg c =
    rw c.release_of-release.ensures
    (leg_listed c.args.network.now (travel_at c.args.run.now c.args.frame) c.args.leg c.requires.journey c.requires.leg)

pub write_hops-requires-clause-ports : goal.write_hops-requires-clause-ports
write_hops-requires-clause-ports c =
    rw (c.topology.ensures.value, c.sender_leg-path.ensures.value, c.release_of-release.ensures)
    (leg_ports c.args.network.now (travel_at c.args.run.now c.args.frame) c.args.leg c.topology.ensures.rules
    c.requires.journey c.requires.leg)

pub write_hops-requires-clause-fit : goal.write_hops-requires-clause-fit
write_hops-requires-clause-fit c =
    rw (c.hops_of.ensures, c.sender_leg-path.ensures.value, c.release_of-release.ensures)
    (leg_fits c.args.network.now (travel_at c.args.run.now c.args.frame) c.args.leg c.requires.journey c.requires.leg)
