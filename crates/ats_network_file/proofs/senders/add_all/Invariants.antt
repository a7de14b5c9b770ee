use Rattle.std.proofs.Common.{◌≡◌, ◌+◌, drop}
use Rattle.ats_network_file.specs.KeptRoutes.{IsKeptFor}
use Rattle.ats_network_file.specs.Senders.{all_added, alone, placed}
use Rattle.ats_network_file.proofs.senders.add_all.Given as goal

-- from here the entries left make what all make, and what is kept is of the topology
abbrev pub invariant-loop-before : goal.invariant-loop-before
invariant-loop-before g l = record {
  made : all_added (g.E.SenderEntry.added l.format) l.network
      (placed alone l.table (l.before + 1) (drop l.before l.entries))
      ≡ all_added (g.E.SenderEntry.added l.format) l.fn.network (placed alone l.table 1 l.entries);
  kept : IsKeptFor l.network.topology l.kept;
}
