use Rattle.ats_plain_run_law.proofs.ReleaseProofs.{releases_are_traced}
use Rattle.ats_plain_run_law.proofs.laws.releases_are_traced.Goals as goal

pub returns : goal.returns
returns c = releases_are_traced
