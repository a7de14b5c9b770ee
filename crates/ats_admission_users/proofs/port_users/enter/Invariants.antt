use Rattle.std.proofs.Common.{take, drop}
use Rattle.std.specs.List.{All}
use Rattle.ats_admission_users.specs.Users.{entry_at}
use Rattle.ats_admission_users.specs.Lists.{items_of, HasRoom, Enters}
use Rattle.ats_admission_users.proofs.port_users.enter.Given as goal

-- the lists of the ports so far have their entries, and those of the others have room
abbrev pub invariant-loop-hop : goal.invariant-loop-hop
invariant-loop-hop l = record {
  entered : Enters (λ port. entry_at port l.slot l.path) (take l.hop l.path) (items_of l.initial.lists.items)
      (items_of l.lists.items);
  room : All (HasRoom l.lists.items) (drop l.hop l.path);
}
