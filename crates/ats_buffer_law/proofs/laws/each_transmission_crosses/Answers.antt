use Rattle.ats_buffer_law.proofs.Sent.{each_crosses}
use Rattle.ats_buffer_law.proofs.laws.each_transmission_crosses.Goals as goal

pub returns : goal.returns
returns c = each_crosses
