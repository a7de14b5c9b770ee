use Rattle.std.specs.Prelude.{ℕ, List, [], Option, None}
use Rattle.ats_events.specs.declared.moment.Moment.{Moment}

-- an agenda: its entries, each a moment and an event, in an order that means nothing, how many it may have, the order
-- of moments, and the moment that was popped last
pub record Contents (O E : Type 0) : Type 0 where
  pub entries : List (Moment × E)
  pub capacity : ℕ
  pub order : O
  pub last : Option Moment

-- an agenda that was just opened
abbrev pub opened : {O E : Type 0} → ℕ → O → Contents O E
opened capacity order = record { entries = []; capacity = capacity; order = order; last = None }
