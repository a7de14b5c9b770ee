use Rattle.ats_command_law.proofs.ExplainMeanings.{explain_means}
use Rattle.ats_command_law.proofs.laws.what_explain_answers.Goals as goal

pub returns : goal.returns
returns c = explain_means c.each_stream_adds_up.ensures c.clear_where_one_holds.ensures
