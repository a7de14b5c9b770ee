use Rattle.std.proofs.Common.{◌≡◌, ◌^◌, ◌<◌, take}
use Rattle.ats_num.specs.Number.{value_of}
use Rattle.ats_num.proofs.numbers.value.Given as goal

-- what the digits so far stand for
abbrev pub invariant-loop-digit : goal.invariant-loop-digit
invariant-loop-digit l = (l.value ≡ value_of (take l.digit-index l.digits)) × (l.value < 10 ^ l.digit-index)
