use Rattle.std.specs.Prelude.{ℕ, ◌<◌, ◌≤◌, [], ◌∷◌, length, get_or}
use Rattle.ats_network.specs.Network.{DeclaredNetwork}
use Rattle.ats_witness.specs.Found.{AreFound, FoundDelays, IsFirstGreatest, found_delays}
use Rattle.ats_examples.specs.Networks.{fork}
use Rattle.ats_found_examples.specs.Later.{release}
use Rattle.ats_tree_examples.specs.Networks.{split_and_flow}

-- Of which hop the burst is told.

-- of two hops with the same delay it is not the last, and of two with other delays not the one with the less; what is
-- found for a listener with another hop is not found, though the burst is the one at the port of that hop
pub record OtherHopsAreNot : Type 0 where
  pub last : ¬ IsFirstGreatest (39007999 ∷ 39007999 ∷ []) 1
  pub less : ¬ IsFirstGreatest (26672000 ∷ 39008000 ∷ []) 0
  pub found_last : ¬ AreFound split_and_flow 0 1 (found_delays (26672000 ∷ 26672000 ∷ []) 1 (release 1 0 ∷ []))
  pub found_less : ¬ AreFound fork 0 0 (found_delays (26672000 ∷ 39008000 ∷ []) 0 (release 1 0 ∷ []))

-- it is one of the hops, no hop has a longer delay, and each hop before it has a shorter one
pub record StandsFirst (found : FoundDelays) : Type 0 where
  pub within : found.hop < length found.delays
  pub none_longer : (hop none : ℕ) → hop < length found.delays
      → get_or found.delays hop none ≤ get_or found.delays found.hop none
  pub before_shorter : (hop none : ℕ) → hop < found.hop
      → get_or found.delays hop none < get_or found.delays found.hop none

-- so it is of all that is found
pub record HopIsFirst : Type 0 where
  pub others : OtherHopsAreNot
  pub each : (network : DeclaredNetwork) (stream listener : ℕ) (found : FoundDelays)
      → AreFound network stream listener found → StandsFirst found
