use Rattle.ats_file_examples.proofs.NetworkRead.{network_is_read}
use Rattle.ats_file_examples.proofs.laws.network_is_read.Goals as goal

pub returns : goal.returns
returns c = network_is_read
