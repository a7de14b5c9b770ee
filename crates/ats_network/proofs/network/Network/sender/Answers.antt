use Rattle.std.proofs.Common.{subst}
use Rattle.ats_network.specs.Network.{IsNetwork}
use Rattle.ats_network.proofs.SenderLemmas.{sender_keeps}
use Rattle.ats_network.proofs.network.Network.sender.Goals as goal

pub returns-then-place-streams-clause-sender : goal.returns-then-place-streams-clause-sender
returns-then-place-streams-clause-sender c = sender_keeps c.args.self.now c.args.sender
    (subst IsNetwork c.self.view_is c.self.invariant) c.requires

pub returns-clause-sender : goal.returns-clause-sender
returns-clause-sender c = sender_keeps c.args.self.now c.args.sender
    (subst IsNetwork c.self.view_is c.self.invariant) c.requires
