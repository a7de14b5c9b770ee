use Rattle.std.specs.Prelude.{◌≡◌, ℕ, ◌^◌, ◌<◌, Some, decimal}
use Rattle.ats_num.specs.Number.{number_of}

-- the decimal text of a number below 10^36 writes that number
abbrev pub ReadsBack : Type 0
ReadsBack = (n : ℕ) → n < 10 ^ 36 → number_of (decimal n) ≡ Some n
