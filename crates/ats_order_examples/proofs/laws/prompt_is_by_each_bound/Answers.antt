use Rattle.ats_order_examples.proofs.PromptProofs.{prompt_is_by_each_bound}
use Rattle.ats_order_examples.proofs.laws.prompt_is_by_each_bound.Goals as goal

pub returns : goal.returns
returns c = prompt_is_by_each_bound
