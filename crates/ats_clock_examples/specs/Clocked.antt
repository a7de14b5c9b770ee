use Rattle.std.specs.Prelude.{◌≡◌, ℕ, List, slice_index_or}
use Rattle.ats_network.specs.Network.{DeclaredNetwork}
use Rattle.ats_trace.specs.Clocks.{IsLegal}
use Rattle.ats_trace.specs.Journey.{Travel}

-- Legal runs, with the clocks by which they are legal.

-- the clock that shows true time
abbrev pub true_time : ℕ → ℕ
true_time t = t

-- what the clock of the node with a number shows, where these are the clocks of the nodes in their order
abbrev pub clock_at : List (ℕ → ℕ) → ℕ → ℕ → ℕ
clock_at clocks node = slice_index_or clocks node true_time

-- a run is legal where the nodes go by these clocks
pub record IsLegalWith (clocks : List (ℕ → ℕ)) (network : DeclaredNetwork) (run : List Travel) : Type 0 where
  pub legal : IsLegal network run
  pub by_clocks : (node t : ℕ) → legal.clocks node t ≡ clock_at clocks node t
