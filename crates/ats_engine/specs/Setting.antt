use Rattle.std.specs.Prelude.{List}
use Rattle.ats_network.specs.Network.{DeclaredNetwork}
use Rattle.ats_trace.specs.declared.journey.Release.{Release}

-- what is run: a network, the releases by frame number, and what the standard leaves open
pub record Setting (T O P : Type 0) : Type 0 where
  pub network : DeclaredNetwork
  pub releases : List Release
  pub tie : T
  pub order : O
  pub pace : P
