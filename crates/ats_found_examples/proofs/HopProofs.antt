use Rattle.std.proofs.Common.{ℕ, ◌<◌, ◌≤◌, [], ◌∷◌, arith, lit<}
use Rattle.ats_network.specs.Network.{DeclaredNetwork}
use Rattle.ats_witness.specs.Found.{AreFound, FoundDelays, IsFirstGreatest}
use Rattle.ats_found_examples.specs.Hops.{HopIsFirst, StandsFirst}

-- The first hop with a greatest delay.

not_last : (delay : ℕ) → ¬ IsFirstGreatest (delay ∷ delay ∷ []) 1
not_last delay first = let shorter : delay < delay = first.2 0 0 (lit< tt) in absurd (omega (arith, shorter))

not_less : ¬ IsFirstGreatest (26672000 ∷ 39008000 ∷ []) 0
not_less first = let longer : 39008000 ≤ 26672000 = first.1 1 0 (lit< tt) in absurd (omega arith)

stands_first : (network : DeclaredNetwork) (stream listener : ℕ) (found : FoundDelays)
    → AreFound network stream listener found → StandsFirst found
stands_first network stream listener found are = record {
  within = are.first.0;
  none_longer = λ hop none. are.first.1 hop none;
  before_shorter = λ hop none. are.first.2 hop none;
}

pub hop_is_first : HopIsFirst
hop_is_first = record {
  others = record {
    last = not_last 39007999;
    less = not_less;
    found_last = λ are. not_last 26672000 are.first;
    found_less = λ are. not_less are.first;
  };
  each = stands_first;
}
