use Rattle.std.proofs.Common.{take}
use Rattle.std.specs.List.{All}
use Rattle.ats_admission_users.specs.Lists.{items_of, EntriesDiffer, Leaves}
use Rattle.ats_admission_users.proofs.port_users.leave.Given as goal

-- the slot is gone from the lists of the ports so far
abbrev pub invariant-loop-port : goal.invariant-loop-port
invariant-loop-port l =
    All EntriesDiffer (items_of l.initial.lists.items)
    → Leaves l.slot (take l.port-index l.path) (items_of l.initial.lists.items) (items_of l.lists.items)
