use Rattle.ats_file_examples.proofs.ForkRead.{fork_is_read}
use Rattle.ats_file_examples.proofs.laws.fork_is_read.Goals as goal

pub returns : goal.returns
returns c = fork_is_read
