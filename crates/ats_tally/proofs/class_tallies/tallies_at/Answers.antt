use Rattle.ats_network.specs.Network.{senders_of}
use Rattle.ats_certificate.specs.PortSums.{senders_at}
use Rattle.ats_tally.specs.declared.tally.TheConstants.{MAX_SENDERS}
use Rattle.ats_tally.proofs.Eight.{classes_seen, eight_are}
use Rattle.ats_tally.proofs.Limits.{all_small, limited_eight}
use Rattle.ats_tally.proofs.Network.{few_senders}
use Rattle.ats_tally.proofs.class_tallies.tallies_at.Goals as goal

pub tallies_of-requires-clause-limits : goal.tallies_of-requires-clause-limits
tallies_of-requires-clause-limits c =
    let network = c.args.network.now in
    limited_eight network.topology c.args.port MAX_SENDERS (senders_of network) c.values_at.result.now
    (all_small network c.topology-rules.ensures.rules) (few_senders network c.topology-rules.ensures.rules)
    c.values_at.ensures.count
    (eight_are network.topology (senders_of network) c.args.shares.now c.args.port
    c.values_at.result.now c.requires.shares c.requires.port c.values_at.ensures)

pub returns : goal.returns
returns c =
    let network = c.args.network.now in
    c.tallies_of.ensures (senders_at network.topology c.args.port (senders_of network))
    (eight_are network.topology (senders_of network) c.args.shares.now c.args.port
    c.values_at.result.now c.requires.shares c.requires.port c.values_at.ensures)
    (classes_seen network c.args.port c.topology-rules.ensures.rules)
