use Rattle.std.specs.Prelude.{ℕ, ◌≤◌}
use Rattle.ats_num.specs.Rate.{IsRate}
use Rattle.ats_num.specs.Wire.{bits_of}
use Rattle.ats_num.specs.declared.rate.TheConstants.{MAX_BURST_BITS}
use Rattle.ats_num.specs.declared.wire.TheConstants.{MIN_OCTETS, MAX_OCTETS}

-- a stream's frames have these least and greatest octets: 64 at the least, 2000 at the most
pub record AreSizes (min_octets max_octets : ℕ) : Type 0 where
  pub least : MIN_OCTETS ≤ min_octets
  pub ordered : min_octets ≤ max_octets
  pub most : max_octets ≤ MAX_OCTETS

-- a full bucket lets the longest frame pass
abbrev pub CoversLongest : ℕ → ℕ → Type 0
CoversLongest burst_bits max_octets = bits_of max_octets ≤ burst_bits

-- so many bits are a committed burst: at most 1,000,000,000
abbrev pub IsBurst : ℕ → Type 0
IsBurst burst_bits = burst_bits ≤ MAX_BURST_BITS

-- what a declared stream keeps: a committed rate, sizes of frames, and a burst that covers the longest frame
pub record KeepsRules (rate_bps burst_bits min_octets max_octets : ℕ) : Type 0 where
  pub rate : IsRate rate_bps
  pub sizes : AreSizes min_octets max_octets
  pub covers : CoversLongest burst_bits max_octets
  pub burst : IsBurst burst_bits
