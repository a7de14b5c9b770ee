use Rattle.std.proofs.Common.{ap, refl}
use Rattle.ats_engine.specs.Told.{told, agenda_told}
use Rattle.ats_engine.proofs.Concluding.{run-by, run-in-time}
use Rattle.ats_engine.proofs.engine.Engine.records.Goals as goal

pub returns-clause-by : goal.returns-clause-by
returns-clause-by g c =
    (run-by c.args.self (agenda_told c.self.inside.agenda) c.self.view_is c.drive.ensures.follows c.drive.ensures.holds
    (ap told c.drive.ensures.empty) refl).0

pub returns-clause-releases : goal.returns-clause-releases
returns-clause-releases g c =
    (run-by c.args.self (agenda_told c.self.inside.agenda) c.self.view_is c.drive.ensures.follows c.drive.ensures.holds
    (ap told c.drive.ensures.empty) refl).1

pub returns-clause-in_time : goal.returns-clause-in_time
returns-clause-in_time g c = run-in-time c.drive.ensures.holds (ap told c.drive.ensures.empty) refl
