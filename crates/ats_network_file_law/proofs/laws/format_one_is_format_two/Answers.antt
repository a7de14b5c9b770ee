use Rattle.ats_network_file_law.proofs.ShortRoutes.{format_one_is_format_two}
use Rattle.ats_network_file_law.proofs.laws.format_one_is_format_two.Goals as goal

pub returns : goal.returns
returns c = format_one_is_format_two
