use Rattle.ats_route_tree.proofs.Right as right
use Rattle.ats_route_tree.proofs.laws.legs_are_one.Goals as goal

pub returns : goal.returns
returns c = right.legs_are_one
