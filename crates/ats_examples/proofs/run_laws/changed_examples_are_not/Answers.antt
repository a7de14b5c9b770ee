use Rattle.ats_examples.proofs.ChangeProofs.{changed_are_not}
use Rattle.ats_examples.proofs.BrokenProofs.{each_breaks_alone}
use Rattle.ats_examples.proofs.run_laws.changed_examples_are_not.Goals as goal

pub returns : goal.returns
returns c = record { changed = changed_are_not; alone = each_breaks_alone }
