use Rattle.std.specs.Prelude.{ℕ, ◌||◌, nat_lt, if◌then◌else◌, List, codes, Option, Some, None}
use Rattle.ats_num.specs.Wire.{bits_of}
use Rattle.ats_num.specs.declared.rate.TheConstants.{MAX_BPS, MAX_BURST_BITS}
use Rattle.ats_num.specs.declared.wire.TheConstants.{MIN_OCTETS, MAX_OCTETS}
use Rattle.ats_streams.specs.declared.fault.StreamFault.{StreamFault}
use Rattle.ats_streams.specs.declared.fault.StreamFault.TheVariants.{BadClass, BadRate, BadSizes, BurstBelowFrame}
use Rattle.ats_streams.specs.declared.fault.StreamFault.TheVariants.{Limit}

-- the word that names a fault in a line of text
abbrev pub text_of : StreamFault → List ℕ
text_of BadClass = codes "bad-class"
text_of BadRate = codes "bad-rate"
text_of BadSizes = codes "bad-sizes"
text_of BurstBelowFrame = codes "burst-below-frame"
text_of Limit = codes "limit"

-- the first rule on rate, burst and sizes that these numbers break, if they break one
abbrev pub rules_fault : ℕ → ℕ → ℕ → ℕ → Option StreamFault
rules_fault rate_bps burst_bits min_octets max_octets =
    if nat_lt rate_bps 1 || nat_lt MAX_BPS rate_bps then Some BadRate
    else if nat_lt min_octets MIN_OCTETS || nat_lt max_octets min_octets || nat_lt MAX_OCTETS max_octets
    then Some BadSizes
    else if nat_lt burst_bits (bits_of max_octets) then Some BurstBelowFrame
    else if nat_lt MAX_BURST_BITS burst_bits then Some Limit
    else None
