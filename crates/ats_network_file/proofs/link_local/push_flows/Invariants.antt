use Rattle.std.proofs.Common.{◌≡◌, ◌++◌, drop, map}
use Rattle.std.specs.List.{enumerate_from}
use Rattle.ats_network_file.specs.LinkLocal.{flow_at, flows_at}
use Rattle.ats_network_file.specs.Senders.{at_place}
use Rattle.ats_network_file.proofs.link_local.push_flows.Given as goal

-- the flows so far, in front of those at the ports left, are all
abbrev pub invariant-loop-number : goal.invariant-loop-number
invariant-loop-number l =
    l.flows.items ++ map (at_place l.place) (map (flow_at l.topology l.entry)
    (enumerate_from l.number (drop l.number l.topology.ports)))
    ≡ l.fn.flows.items ++ map (at_place l.place) (flows_at l.topology l.entry)
