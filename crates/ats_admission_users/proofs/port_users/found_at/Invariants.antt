use Rattle.std.proofs.Common.{◌≢◌, take}
use Rattle.std.specs.List.{All}
use Rattle.ats_admission_users.specs.declared.entry.Entry.{Entry}
use Rattle.ats_admission_users.proofs.port_users.found_at.Given as goal

-- none of the entries so far has the slot
abbrev pub invariant-loop-at : goal.invariant-loop-at
invariant-loop-at l = All (λ (e : Entry). e.slot ≢ l.slot) (take l.at l.list)
