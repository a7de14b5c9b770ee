use Rattle.ats_checker.proofs.Refused.{refused_unless_holding}
use Rattle.ats_checker.proofs.laws.refused_unless_holding.Goals as goal

pub returns : goal.returns
returns c = refused_unless_holding
