use Rattle.std.proofs.Common.{◌∙◌}
use Rattle.ats_engine.proofs.Starting.{may-begin, setting-first}
use Rattle.ats_engine.proofs.engine.Engine+T+O+P+Whole.open.Goals as goal

pub begin-requires : goal.begin-requires
begin-requires g c =
    may-begin c.in_ok-opening.opening c.in_ok-opening.ensures.opens c.in_ok-opening.ensures.given
    c.in_ok-records.ensures

pub returns : goal.returns
returns g c =
    c.begin.ensures
    ∙ setting-first c.in_ok-opening.opening c.in_ok-opening.ensures.given c.in_ok-records.ensures
