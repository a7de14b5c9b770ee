use Rattle.std.proofs.Common.{refl}
use Rattle.ats_clock_examples.specs.Narrowed.{NarrowedKeepsClocks}

-- Narrowed bursts by computation.

pub narrowed_keeps_clocks : NarrowedKeepsClocks
narrowed_keeps_clocks = record { narrowed_to_one = refl; narrowed_again = refl }
