use Rattle.ats_network_file_law.proofs.ShortRoutes.{short_routes_are_of_both}
use Rattle.ats_network_file_law.proofs.laws.short_routes_are_of_both.Goals as goal

pub returns : goal.returns
returns c = short_routes_are_of_both
