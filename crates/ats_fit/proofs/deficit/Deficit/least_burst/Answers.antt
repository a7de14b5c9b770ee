use Rattle.std.proofs.Common.{arith}
use Rattle.ats_fit.specs.Deficit.{most_bits}
use Rattle.ats_fit.proofs.deficit.Deficit.least_burst.Goals as goal

pub overflow_cast-result : goal.overflow_cast-result
overflow_cast-result c = omega (arith, c.ceil_div.ensures.least most_bits (omega (arith, c.requires)))
