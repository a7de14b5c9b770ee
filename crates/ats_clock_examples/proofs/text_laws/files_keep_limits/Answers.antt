use Rattle.ats_clock_examples.proofs.FileLimitProofs.{files_keep_limits}
use Rattle.ats_clock_examples.proofs.text_laws.files_keep_limits.Goals as goal

pub returns : goal.returns
returns c = files_keep_limits
