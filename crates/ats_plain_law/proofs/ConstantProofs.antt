use Rattle.std.proofs.Common.{refl}
use Rattle.ats_plain_law.specs.Constants.{ConstantsArePlain}

-- The numbers that have a name in the code.

pub constants_are_plain : ConstantsArePlain
constants_are_plain = record {
  streams = refl;
  flows = refl;
  together = refl;
  branches = refl;
  frames = refl;
  hops = refl;
  release = refl;
  pause = refl;
}
