use Rattle.ats_order_examples.proofs.ClockedProofs.{legal_by_clocks_is_meant}
use Rattle.ats_order_examples.proofs.laws.legal_by_clocks_is_each_part.Goals as goal

pub returns : goal.returns
returns c = legal_by_clocks_is_meant
