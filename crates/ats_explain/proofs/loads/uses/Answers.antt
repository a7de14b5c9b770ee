use Rattle.std.proofs.Common.{◌∙◌, ap}
use Rattle.std.specs.Prelude.{nat_lt}
use Rattle.ats_explain.proofs.Rates.{some_rate}
use Rattle.ats_explain.proofs.loads.uses.Goals as goal

pub returns : goal.returns
returns c = ap (nat_lt 0) c.rate.ensures.rate ∙ some_rate c.args.tallies.now c.args.port c.rate.ensures.rules
