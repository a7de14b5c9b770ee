use Rattle.ats_network_file_law.proofs.Formats.{format_three_is_format_two}
use Rattle.ats_network_file_law.proofs.laws.format_three_is_format_two.Goals as goal

pub returns : goal.returns
returns c = format_three_is_format_two
