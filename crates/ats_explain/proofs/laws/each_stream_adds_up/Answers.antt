use Rattle.ats_explain.proofs.Sums.{each_stream_adds_up}
use Rattle.ats_explain.proofs.laws.each_stream_adds_up.Goals as goal

pub returns : goal.returns
returns c = each_stream_adds_up
