use Rattle.ats_plain_topology_law.proofs.PlaceProofs.{places_are_given}
use Rattle.ats_plain_topology_law.proofs.laws.places_are_given.Goals as goal

pub returns : goal.returns
returns c = places_are_given
