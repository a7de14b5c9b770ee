use Rattle.std.proofs.Common.{refl}
use Rattle.ats_network_table.specs.Walk.{Entry}
use Rattle.ats_first_examples.specs.Due.{DueKeysAreMeant, EachIsDue, StreamsMayHaveSeveral}

-- Keys that have to stand in a table, by computation.

each_is_due : (e : Entry) → EachIsDue e
each_is_due e = record {
  always = refl;
  never = refl;
  path = refl;
  class = refl;
  from = refl;
  to = refl;
  address = refl;
  vlan = refl;
  stands = λ k. refl;
  missing = λ k. refl;
}

streams_may_have_several : StreamsMayHaveSeveral
streams_may_have_several = record { one = refl; two = refl; three = refl; classes = refl }

pub due_keys_are_meant : DueKeysAreMeant
due_keys_are_meant = record { each = each_is_due; several = streams_may_have_several }
