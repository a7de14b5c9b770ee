use Rattle.ats_network_file.proofs.StepLemmas.{none_only}
use Rattle.ats_network_file.proofs.kept_steps.nothing_kept.Goals as goal

pub returns : goal.returns
returns c = c.in_ok-ports.ensures.items_if_clones_equal (none_only _ (λ n clone. clone))
