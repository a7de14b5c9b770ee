use Rattle.ats_csv.proofs.ReadsBack.{mark_is_passed, plain_reads_back}
use Rattle.ats_csv.proofs.laws.plain_reads_back.Goals as goal

pub returns-clause-text : goal.returns-clause-text
returns-clause-text c = plain_reads_back

pub returns-clause-mark : goal.returns-clause-mark
returns-clause-mark c = mark_is_passed
