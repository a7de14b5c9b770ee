use Rattle.ats_engine_steps.specs.declared.stages.Told.TheVariants.{Began}
use Rattle.ats_engine_steps.proofs.Telling.{stages-told}
use Rattle.ats_engine_steps.proofs.stages.Stages.push.Goals as goal

pub returns : goal.returns
returns c = stages-told c.self.inside.told.items (Began c.args.stage) c.self.view_is c.and-self-inside.ensures
