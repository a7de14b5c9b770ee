use Rattle.ats_steady_law.proofs.RestProofs.{each_stream_rests}
use Rattle.ats_steady_law.proofs.laws.each_stream_rests.Goals as goal

pub returns : goal.returns
returns c = each_stream_rests
