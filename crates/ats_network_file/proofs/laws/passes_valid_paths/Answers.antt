use Rattle.ats_network_file.proofs.ValidPaths.{valid_passed, valid_passes}
use Rattle.ats_network_file.proofs.laws.passes_valid_paths.Goals as goal

pub returns : goal.returns
returns c = λ topology path. (valid_passed topology path, valid_passes topology path)
