use Rattle.ats_trace.proofs.OneListener.{no_copy_no_branch}
use Rattle.ats_trace.proofs.laws.no_copy_no_branch.Goals as goal

pub returns : goal.returns
returns c = no_copy_no_branch
