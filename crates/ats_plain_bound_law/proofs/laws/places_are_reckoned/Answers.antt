use Rattle.ats_plain_bound_law.proofs.PlaceProofs.{places_are_reckoned}
use Rattle.ats_plain_bound_law.proofs.laws.places_are_reckoned.Goals as goal

pub returns : goal.returns
returns c = places_are_reckoned
