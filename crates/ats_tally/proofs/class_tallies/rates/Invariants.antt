use Rattle.std.proofs.Common.{◌≡◌, take}
use Rattle.std.specs.List.{sum_by}
use Rattle.ats_tally.specs.declared.share.Share.{Share}
use Rattle.ats_tally.proofs.class_tallies.rates.Given as goal

-- the sum of the classes so far
abbrev pub invariant-loop-share : goal.invariant-loop-share
invariant-loop-share l = l.sum ≡ sum_by (λ (s : Share). s.rate) (take l.share-index l.shares)
