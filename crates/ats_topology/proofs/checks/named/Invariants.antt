use Rattle.std.proofs.Common.{◌≡◌, None, take}
use Rattle.ats_topology.specs.Node.{names_of}
use Rattle.ats_topology.specs.Faults.{first_below, is_name_again}
use Rattle.ats_topology.proofs.checks.named.Given as goal

-- the table has the names so far, and none of them came twice
abbrev pub invariant-loop-i : goal.invariant-loop-i
invariant-loop-i l = record {
  names : l.names ≡ take l.i (names_of l.nodes);
  apart : first_below (is_name_again (names_of l.nodes)) l.i ≡ None;
}
