use Rattle.std.proofs.Common.{arith}
use Rattle.ats_network.specs.Network.{senders_of}
use Rattle.ats_network.specs.Senders.{no_sender}
use Rattle.ats_witness.proofs.TravelLemmas.{travel-le}
use Rattle.ats_witness.proofs.burst.push_frames.Goals as goal

pub time-requires-clause-travel : goal.time-requires-clause-travel
time-requires-clause-travel c =
    let network = c.args.network.now in
    let most = travel-le network c.args.port 0 (senders_of network) c.args.sender no_sender c.requires.sender
    c.in-Some.ensures.used in
    omega (arith, most, c.in-Some.ensures.travel, c.requires.greatest)
