use Rattle.ats_explain.proofs.Clearance.{clear_where_one_holds}
use Rattle.ats_explain.proofs.laws.clear_where_one_holds.Goals as goal

pub returns : goal.returns
returns c = clear_where_one_holds
