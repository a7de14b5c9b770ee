use Rattle.ats_network_file.proofs.Trees.{legs_are_found, legs_have}
use Rattle.ats_network_file.proofs.laws.legs_are_those_of_routes.Goals as goal

pub returns : goal.returns
returns c = λ topology routes legs. (legs_have topology routes legs, legs_are_found topology routes legs)
