use Rattle.std.proofs.Common.{◌≡◌, ◌<◌, length, All, None}
use Rattle.ats_queue_tests.proofs.heaps.fill_agenda.Given as goal

-- as many entries as were inserted, with lesser ids
abbrev pub invariant-loop-k : goal.invariant-loop-k
invariant-loop-k l = record {
  count : length l.agenda.entries ≡ l.k;
  ids : All (λ entry. entry.0.id < l.k) l.agenda.entries;
  last : l.agenda.last ≡ None;
  capacity : l.agenda.capacity ≡ 1000000;
}
