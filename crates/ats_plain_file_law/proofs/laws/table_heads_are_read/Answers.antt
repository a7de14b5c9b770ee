use Rattle.ats_plain_file_law.proofs.TableProofs.{table_heads_are_read}
use Rattle.ats_plain_file_law.proofs.laws.table_heads_are_read.Goals as goal

pub returns : goal.returns
returns c = table_heads_are_read
