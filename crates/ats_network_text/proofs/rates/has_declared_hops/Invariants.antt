use Rattle.std.proofs.Common.{◌≡◌, take, true}
use Rattle.std.specs.List.{list_all}
use Rattle.ats_network.specs.Senders.{sender_at}
use Rattle.ats_network_text.specs.Text.{hop_is_declared}
use Rattle.ats_network_text.proofs.rates.has_declared_hops.Given as goal

-- it is so at the ports so far
abbrev pub invariant-loop-place : goal.invariant-loop-place
invariant-loop-place l =
    let s = sender_at l.network l.stream in
    list_all (hop_is_declared l.network.topology s) (take l.place s.ports) ≡ true
