use Rattle.std.proofs.Common.{◌≡◌, length}
use Rattle.ats_lrq.proofs.Narrowing.{narrowed_to}
use Rattle.ats_lrq.proofs.bursts.narrow.Given as goal

-- the streams so far are narrowed, and those behind them are as at first
abbrev pub invariant-loop-stream : goal.invariant-loop-stream
invariant-loop-stream l = record {
  so_far : l.network ≡ narrowed_to l.initial.network l.stream;
  count : length l.network.streams ≡ length l.initial.network.streams;
}
