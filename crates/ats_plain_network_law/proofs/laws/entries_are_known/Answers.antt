use Rattle.ats_plain_network_law.proofs.EntryProofs.{entries_are_known}
use Rattle.ats_plain_network_law.proofs.laws.entries_are_known.Goals as goal

pub returns : goal.returns
returns c = entries_are_known
