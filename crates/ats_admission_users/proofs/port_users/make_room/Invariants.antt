use Rattle.std.proofs.Common.{◌≡◌, take}
use Rattle.std.specs.List.{All}
use Rattle.ats_admission_users.specs.Lists.{items_of, HasRoom}
use Rattle.ats_admission_users.proofs.port_users.make_room.Given as goal

-- the lists of the ports so far have room, and no list changed
abbrev pub invariant-loop-port : goal.invariant-loop-port
invariant-loop-port l = record {
  same : items_of l.lists.items ≡ items_of l.initial.lists.items;
  room : All (HasRoom l.lists.items) (take l.port-index l.path);
}
