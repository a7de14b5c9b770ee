use Rattle.std.specs.Prelude.{◌≡◌, [], ◌∷◌, map}
use Rattle.ats_gen.specs.Made.{stream_of}
use Rattle.ats_examples.specs.OwnFrames.{own}
use Rattle.ats_tree_examples.specs.Networks.{from_bridge}
use Rattle.ats_own_examples.specs.Networks.{local}

-- Turns in which releases are made, where frames begin or end at bridges.

-- all streams take turns, those of bridges and to bridges too, and flows do not
pub record AllTakeTurns : Type 0 where
  pub of_own : map (stream_of own) (0 ∷ 1 ∷ 2 ∷ 3 ∷ []) ≡ 0 ∷ 1 ∷ 2 ∷ 0 ∷ []
  pub of_bridge : map (stream_of from_bridge) (0 ∷ 1 ∷ []) ≡ 0 ∷ 0 ∷ []
  pub of_local : map (stream_of local) (0 ∷ 1 ∷ 2 ∷ 3 ∷ 4 ∷ 5 ∷ []) ≡ 0 ∷ 1 ∷ 2 ∷ 3 ∷ 4 ∷ 0 ∷ []
