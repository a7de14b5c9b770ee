use Rattle.ats_edge_examples.proofs.EachEntryProofs.{each_entry_counts}
use Rattle.ats_edge_examples.proofs.laws.each_entry_counts.Goals as goal

pub returns : goal.returns
returns c = each_entry_counts
