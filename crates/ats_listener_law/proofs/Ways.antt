-- The way of a frame to each listener.
use Rattle.std.proofs.Common.{◌∙◌, arith}
use Rattle.ats_streams.proofs.BranchLemmas.{routes-length}
use Rattle.ats_network.specs.Sender.{Sender}
use Rattle.ats_network.specs.Senders.{sender_at}
use Rattle.ats_network.proofs.SenderLemmas.{sender_keeps}
use Rattle.ats_soundness_law.proofs.Routes.{OnRoute, on_route}
use Rattle.ats_listener_law.specs.Ways.{OneForEachLeg, WaysAreWays}

pub one_for_each_leg : OneForEachLeg
one_for_each_leg sender = routes-length sender.ports sender.branches ∙ (omega arith)

pub ways_are_ways : WaysAreWays
ways_are_ways network j listener net is within =
    let s : Sender = sender_at network j.release.sender in
    let on : OnRoute s j listener =
    on_route network.topology s j listener (sender_keeps network j.release.sender net is.sender) is.copies is.way
    is.released (omega (arith, within, one_for_each_leg s)) in
    record { way = on.way; released = on.released }
