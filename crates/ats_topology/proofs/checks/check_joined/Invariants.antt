use Rattle.std.proofs.Common.{◌≡◌, None, take}
use Rattle.ats_topology.specs.Faults.{first_below, is_link_again}
use Rattle.ats_topology.proofs.LinkLemmas.{HasJoined}
use Rattle.ats_topology.proofs.checks.check_joined.Given as goal

-- the set has what the links so far join, and none of them joins what an earlier one joins
abbrev pub invariant-loop-i : goal.invariant-loop-i
invariant-loop-i l = record {
  joined : HasJoined l.joined (take l.i l.links);
  apart : first_below (is_link_again l.links) l.i ≡ None;
}
