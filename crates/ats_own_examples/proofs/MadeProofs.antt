use Rattle.std.proofs.Common.{refl}
use Rattle.ats_own_examples.specs.Made.{AllTakeTurns}

-- Turns by computation.

pub all_take_turns : AllTakeTurns
all_take_turns = record { of_own = refl; of_bridge = refl; of_local = refl }
