use Rattle.std.specs.Prelude.{◌≡◌, ℕ, List, [], ◌∷◌, Some}
use Rattle.ats_num.specs.declared.time.Ps.{Ps}
use Rattle.ats_events.specs.declared.moment.Moment.{Moment}
use Rattle.ats_engine_steps.specs.Course.{Course}
use Rattle.ats_engine_steps.specs.Steps.{due_entries}
use Rattle.ats_engine_steps.specs.declared.event.Event.{Event}

-- a frame that came along a leg is left until it becomes eligible at this time
pub record IsLeftUntil {T : Type 0} (old new : Course T) (row : ℕ) (at : Ps) (entries : List (Moment × Event))
    : Type 0 where
  pub same : new ≡ old
  pub brings : entries ≡ due_entries (Some at) (row ∷ [])
