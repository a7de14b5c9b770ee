use Rattle.std.proofs.Common.{subst}
use Rattle.ats_network.specs.Network.{IsNetwork}
use Rattle.ats_network.specs.Sender.{Sender}
use Rattle.ats_admission_law.proofs.Networks.{less_is_network}
use Rattle.ats_tally.specs.Shares.{Enters}
use Rattle.ats_tally.proofs.Limits.{room_all}
use Rattle.ats_admission_shares.specs.PortShares.{stream_at, without_at}
use Rattle.ats_admission_shares.proofs.Entered.{less_by, shares_entered, stream_is}
use Rattle.ats_admission_shares.proofs.port_shares.enter_stream.Goals as goal

pub enter_along-requires-clause-room : goal.enter_along-requires-clause-room
enter_along-requires-clause-room c =
    let network = c.args.network.now in
    let less : IsNetwork (without_at network c.args.stream) =
    less_is_network network (without_at network c.args.stream) (stream_at network c.args.stream)
    (less_by network c.args.stream c.requires.stream) c.topology-rules.ensures.rules in
    room_all (without_at network c.args.stream) c.args.shares.now less c.requires.shares

pub returns : goal.returns
returns c =
    let network = c.args.network.now in
    shares_entered network (without_at network c.args.stream) (stream_at network c.args.stream)
    (less_by network c.args.stream c.requires.stream) c.args.shares.now c.enter_along.new.shares c.requires.shares
    (subst (λ (s : Sender). Enters network.topology s c.args.shares.now c.enter_along.new.shares)
    (stream_is network c.args.stream c.requires.stream) c.enter_along.ensures)
