use Rattle.ats_file_examples.proofs.CrowdWritten.{crowd_is_written}
use Rattle.ats_file_examples.proofs.laws.crowd_is_written.Goals as goal

pub returns : goal.returns
returns c = crowd_is_written
