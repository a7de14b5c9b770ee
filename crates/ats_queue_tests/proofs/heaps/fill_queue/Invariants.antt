use Rattle.std.proofs.Common.{◌≡◌, ◌<◌, length, All}
use Rattle.ats_queue_tests.proofs.heaps.fill_queue.Given as goal

-- as many frames as were inserted, with lesser numbers
abbrev pub invariant-loop-k : goal.invariant-loop-k
invariant-loop-k l = record {
  count : length l.queue.held ≡ l.k;
  frames : All (λ queued. queued.frame < l.k) l.queue.held;
  capacity : l.queue.capacity ≡ 1000000;
}
