use Rattle.std.proofs.Common.{subst, sym}
use Rattle.ats_engine_proofs.specs.InTime.{IsRunInTime}
use Rattle.ats_engine.proofs.engine.Engine+T+O+P+Brief.run_brief.Goals as goal

pub returns-clause-in_time : goal.returns-clause-in_time
returns-clause-in_time g c = subst IsRunInTime (sym c.finish_brief.ensures) c.records.ensures.in_time
