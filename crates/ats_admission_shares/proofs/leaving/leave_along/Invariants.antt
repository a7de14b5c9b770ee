use Rattle.std.proofs.Common.{Some, take}
use Rattle.ats_network.specs.Network.{senders_of}
use Rattle.ats_network.specs.Sender.{stream_sender}
use Rattle.ats_certificate.specs.PortSums.{senders_at}
use Rattle.ats_tally.proofs.Changed.{ChangesAlong}
use Rattle.ats_tally.specs.Shares.{share_of}
use Rattle.ats_admission_shares.proofs.leaving.leave_along.Given as goal

-- the shares at the ports so far are those without the stream
abbrev pub invariant-loop-hop : goal.invariant-loop-hop
invariant-loop-hop l = ChangesAlong
    (λ port class. Some (share_of class (senders_at l.network.topology port (senders_of l.network))))
    (stream_sender l.stream) (take l.hop l.stream.ports) l.initial.shares l.shares
