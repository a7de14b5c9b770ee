use Rattle.std.proofs.Common.{◌≡◌, drop}
use Rattle.ats_network_file.specs.KeptRoutes.{IsKeptFor}
use Rattle.ats_network_file.specs.Senders.{all_added}
use Rattle.ats_network_file.proofs.senders.add_placed.Given as goal

-- from here the entries left make what all make, and what is kept is of the topology
abbrev pub invariant-loop-place : goal.invariant-loop-place
invariant-loop-place g l = record {
  made : all_added (g.E.SenderEntry.added l.format) l.network (drop l.place-index l.entries)
      ≡ all_added (g.E.SenderEntry.added l.format) l.fn.network l.entries;
  kept : IsKeptFor l.network.topology l.kept;
}
