use Rattle.ats_clock_law.proofs.Counted.{counted_keep}
use Rattle.ats_clock_law.proofs.laws.counted_keep_bucket.Goals as goal

pub returns : goal.returns
returns c = counted_keep
