-- Stages that are told one after another.
use Rattle.std.specs.Prelude.{List, [], ◌∷◌, ◌++◌, slice_set}
use Rattle.ats_engine_steps.specs.declared.stage.Stage.{Stage}
use Rattle.ats_engine_steps.specs.declared.stages.Told.{Told}
use Rattle.ats_engine_steps.specs.declared.stages.Told.TheVariants.{Began, Reached}

-- the stages by row when this is told next
abbrev pub stages_next : List Stage → Told → List Stage
stages_next stages (Began stage) = stages ++ stage ∷ []
stages_next stages (Reached row stage) = slice_set stages row stage

-- and when all of this is
abbrev pub stages_after : List Stage → List Told → List Stage
stages_after stages [] = stages
stages_after stages (next ∷ told) = stages_after (stages_next stages next) told
