use Rattle.std.proofs.Common.{get_or, sym}
use Rattle.ats_admission_state.specs.Routes.{no_route}
use Rattle.ats_admission_state.proofs.Spared.{not_late}
use Rattle.ats_admission_state.proofs.late.is_late.Goals as goal

pub returns-then-spares-number-gt0-clause-late : goal.returns-then-spares-number-gt0-clause-late
returns-then-spares-number-gt0-clause-late c =
    sym (not_late c.args.bounds.now (get_or c.args.routes.now c.args.number no_route)
    (get_or c.args.spares.now c.args.number 0) (c.requires.spares.each c.args.number c.requires.number)
    c.if-spares-number-gt0.true)
