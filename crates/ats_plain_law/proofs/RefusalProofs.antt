use Rattle.std.proofs.Common.{refl}
use Rattle.ats_plain_law.specs.Refusals.{RefusalsArePlain}

-- Why rows are refused.

pub refusals_are_plain : RefusalsArePlain
refusals_are_plain network rows = refl
