use Rattle.ats_tree_examples.proofs.BreakProofs.{each_has_one_copy, times_are_the_frames, discards_are_for_all}
use Rattle.ats_tree_examples.proofs.BreakProofs.{rules_are_kept}
use Rattle.ats_tree_examples.proofs.run_laws.copies_break_alone.Goals as goal

pub returns : goal.returns
returns c = record {
  copies = each_has_one_copy;
  times = times_are_the_frames;
  discards = discards_are_for_all;
  rules = rules_are_kept;
}
