use Rattle.std.proofs.Common.{refl}
use Rattle.ats_own_examples.specs.Asked.{OthersAreAdmitted}

-- Answers by computation.

pub others_are_admitted : OthersAreAdmitted
others_are_admitted = record { beside = refl; lowest = refl; of_local = refl; left = refl }
