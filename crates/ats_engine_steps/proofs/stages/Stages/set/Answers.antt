use Rattle.ats_engine_steps.specs.declared.stages.Told.TheVariants.{Reached}
use Rattle.ats_engine_steps.proofs.Telling.{stages-told}
use Rattle.ats_engine_steps.proofs.stages.Stages.set.Goals as goal

pub returns : goal.returns
returns c =
    stages-told c.self.inside.told.items (Reached c.args.row c.args.stage) c.self.view_is c.and-self-inside.ensures
