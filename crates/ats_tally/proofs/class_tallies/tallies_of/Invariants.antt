use Rattle.std.proofs.Common.{◌≡◌, ℕ, ◌<◌, ◌≤◌, max, List, length, drop, map, take}
use Rattle.std.specs.Prelude.{fold, slice_get}
use Rattle.std.specs.List.{All, sum_by}
use Rattle.ats_network.specs.Class.{PortSender}
use Rattle.ats_tally.specs.Tallies.{IsTallied}
use Rattle.ats_tally.specs.Shares.{AreShares}
use Rattle.ats_tally.specs.declared.share.Share.{Share}
use Rattle.ats_tally.proofs.class_tallies.tallies_of.Given as goal

-- the tallies of the classes so far are there; the sums are those of the classes to come, the longest frame is that of
-- the classes so far
abbrev pub invariant-loop-class : goal.invariant-loop-class
invariant-loop-class l = record {
  long : length l.tallies ≡ 8;
  above : l.above ≡ sum_by (λ (s : Share). s.rate) (drop l.class l.shares);
  bursts : l.bursts ≡ sum_by (λ (s : Share). s.bursts) (drop l.class l.shares);
  lower : l.lower ≡ fold max 0 (map (λ (s : Share). s.longest) (take l.class l.shares));
  made : (senders : List PortSender) → AreShares senders l.shares → All (λ (s : PortSender). s.class ≤ 7) senders
      → (class : ℕ) → 1 ≤ class → class < l.class → IsTallied class senders (slice_get l.tallies class);
}
