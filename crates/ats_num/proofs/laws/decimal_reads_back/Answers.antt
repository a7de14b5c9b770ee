use Rattle.ats_num.proofs.Decimal.{reads_back}
use Rattle.ats_num.proofs.laws.decimal_reads_back.Goals as goal

pub returns : goal.returns
returns c = reads_back
