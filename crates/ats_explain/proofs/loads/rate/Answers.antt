use Rattle.std.proofs.Common.{arith}
use Rattle.ats_tally.proofs.Network.{all_within}
use Rattle.ats_explain.proofs.Rates.{rates_are}
use Rattle.ats_explain.proofs.loads.rate.Goals as goal

pub overflow_add-result : goal.overflow_add-result
overflow_add-result c =
    let within = all_within c.args.tallies.now c.args.port 1 c.tally-tally.result c.network-network.ensures.rules
    (omega arith) c.tally-tally.ensures in
    omega (arith, within.above, within.equal)

pub returns-clause-rate : goal.returns-clause-rate
returns-clause-rate c = rates_are c.args.tallies.now c.args.port c.tally-tally.result c.network-network.ensures.rules
    c.tally-tally.ensures
