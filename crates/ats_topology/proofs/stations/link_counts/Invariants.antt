use Rattle.std.proofs.Common.{◌≡◌, take}
use Rattle.ats_topology.specs.Link.{link_counts}
use Rattle.ats_topology.proofs.stations.link_counts.Given as goal

-- the counts over the links so far
abbrev pub invariant-loop-link : goal.invariant-loop-link
invariant-loop-link l = l.counts.items ≡ link_counts l.names (take l.link-index l.links)
