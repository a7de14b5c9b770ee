use Rattle.std.proofs.Common.{◌≡◌, None, take}
use Rattle.std.specs.List.{position_from}
use Rattle.ats_topology.specs.Faults.{is_badly_linked}
use Rattle.ats_topology.proofs.stations.bad_station_place.Given as goal

-- no node so far is a station without exactly one link
abbrev pub invariant-loop-i : goal.invariant-loop-i
invariant-loop-i l = position_from (is_badly_linked l.links) 0 (take l.i l.nodes) ≡ None
