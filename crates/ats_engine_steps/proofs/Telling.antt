-- What is told of stages, one after another.
use Rattle.std.proofs.Common.{◌≡◌, ◌∙◌, List, [], ◌∷◌, ◌++◌, ap, refl}
use Rattle.ats_engine_steps.specs.Stages.{stages_after, stages_next}
use Rattle.ats_engine_steps.specs.declared.stage.Stage.{Stage}
use Rattle.ats_engine_steps.specs.declared.stages.Told.{Told}

-- what is told last comes last
pub after-more : (stages : List Stage) (told : List Told) (next : Told)
    → stages_after stages (told ++ next ∷ []) ≡ stages_next (stages_after stages told) next
after-more stages [] next = refl
after-more stages (first ∷ told) next = after-more (stages_next stages first) told next

pub stages-told : {more : List Told} {now : List Stage} (told : List Told) (next : Told)
    → stages_after [] told ≡ now → more ≡ told ++ next ∷ [] → stages_after [] more ≡ stages_next now next
stages-told told next seen is =
    ap (stages_after []) is ∙ after-more [] told next ∙ ap (λ (s : List Stage). stages_next s next) seen
