use Rattle.std.proofs.Common.{◌≡◌, drop}
use Rattle.ats_streams.specs.Branches.{routes_of}
use Rattle.ats_network.specs.Rates.{in_front_on, ports_to}
use Rattle.ats_network.specs.Sender.{stream_sender}
use Rattle.ats_network.proofs.rates.seen_from.Given as goal

-- no route so far has the port
abbrev pub invariant-loop-leg : goal.invariant-loop-leg
invariant-loop-leg l = in_front_on l.port (drop l.leg (routes_of l.stream.ports l.stream.branches))
    ≡ ports_to (stream_sender l.stream) l.port
