use Rattle.std.proofs.Common.{◌≡◌, ◌++◌, take}
use Rattle.std.specs.List.{flat_map}
use Rattle.ats_network.specs.Senders.{sender_at}
use Rattle.ats_network_text.specs.Text.{hop_text}
use Rattle.ats_network_text.proofs.rates.write_hops.Given as goal

-- the text has the words of the ports so far
abbrev pub invariant-loop-place : goal.invariant-loop-place
invariant-loop-place l =
    let s = sender_at l.network l.stream in
    l.out.items ≡ l.initial.out.items ++ flat_map (hop_text l.network.topology s) (take l.place s.ports)
