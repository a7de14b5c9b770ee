use Rattle.ats_plain_run_law.proofs.HeaderProofs.{header_is_traced}
use Rattle.ats_plain_run_law.proofs.laws.header_is_traced.Goals as goal

pub returns : goal.returns
returns c = header_is_traced
