use Rattle.std.proofs.Common.{◌≡◌, ◌*◌, ◌≤◌, ◌^◌, map}
use Rattle.std.specs.List.{range_with_len}
use Rattle.ats_replay.specs.Summary.{first_of}
use Rattle.ats_replay.proofs.summary.firsts_of.Given as goal

-- the places of the senders so far, and that of the next one
abbrev pub invariant-loop-sender : goal.invariant-loop-sender
invariant-loop-sender l = record {
  so_far : l.firsts.items ≡ map (first_of l.network) (range_with_len 0 l.sender);
  next : l.first ≡ first_of l.network l.sender;
  few : l.first ≤ 2 ^ 32 * l.sender;
}
