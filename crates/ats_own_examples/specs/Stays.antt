use Rattle.std.specs.Prelude.{ℕ, Option, Some, None}
use Rattle.ats_explain.specs.Laws.{AreParts}
use Rattle.ats_explain.specs.Parts.{parts_at}
use Rattle.ats_explain.specs.declared.parts.Parts.{Parts}
use Rattle.ats_explain.specs.declared.parts.Stay.{Stay}
use Rattle.ats_examples.specs.OwnFrames.{own}

-- Which stay the parts of a bound have.

-- the stay with this need and residence
abbrev pub stay : ℕ → ℕ → Option Stay
stay need residence = Some (record { need = need; residence = residence })

-- the parts of a port and class of `own`, with this stay
abbrev pub parts_with : ℕ → ℕ → Option Stay → Parts
parts_with port class told = record (parts_at own port class) { stay = told }

-- at the port that leads to the bridge class 7 has a stay, though no frame of it goes on from there: with the wait as
-- need and the bridge's maximum residence time, and neither another one nor none. At the port to the listener's station
-- none is told
pub record StaysAreExact : Type 0 where
  pub ending : AreParts own 0 7 (parts_with 0 7 (stay 12336000 1000000000))
  pub another_need : ¬ AreParts own 0 7 (parts_with 0 7 (stay 12336001 1000000000))
  pub another_residence : ¬ AreParts own 0 7 (parts_with 0 7 (stay 12336000 1000000))
  pub none : ¬ AreParts own 0 7 (parts_with 0 7 None)
  pub going_on : AreParts own 0 6 (parts_with 0 6 (stay 12460607 1000000000))
  pub not_of_other : ¬ AreParts own 0 6 (parts_with 0 6 (stay 12336000 1000000000))
  pub to_station : AreParts own 2 7 (parts_with 2 7 None)
  pub no_bridge : ¬ AreParts own 2 7 (parts_with 2 7 (stay 12336000 0))
