use Rattle.std.proofs.Common.{◌≡◌, [], length}
use Rattle.std.specs.List.{All}
use Rattle.std.specs.Global.{Vec}
use Rattle.ats_admission_users.specs.declared.entry.Entry.{Entry}
use Rattle.ats_admission_users.proofs.port_users.empty_lists.Given as goal

-- so many empty lists so far
abbrev pub invariant-loop : goal.invariant-loop
invariant-loop l = record {
  count : length l.lists.items ≡ l.counter;
  empty : All (λ (list : Vec Entry). list.items ≡ []) l.lists.items;
}
