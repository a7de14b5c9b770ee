use Rattle.std.specs.Prelude.{ℕ, ◌+◌, ◌==◌, List, [], ◌∷◌, slice_index_or, if◌then◌else◌}
use Rattle.ats_num.specs.Wire.{bits_of}
use Rattle.ats_network.specs.Network.{DeclaredNetwork}
use Rattle.ats_trace.specs.Talker.{KeepsBuckets}
use Rattle.ats_trace.specs.declared.journey.Release.{Release}
use Rattle.ats_conform.specs.declared.meter.Metered.{Metered}
use Rattle.ats_conform.specs.Metering.{metered}

-- for numbers past the last release
abbrev pub no_release : Release
no_release = record { at = record { 0 = 0 }; sender = 0; octets = 0 }

abbrev pub release_at : List Release → ℕ → Release
release_at releases n = slice_index_or releases n no_release

-- a release as its stream's meter takes it
abbrev pub metered_at : ℕ → Release → Metered
metered_at n r = metered n r.at.0 (bits_of r.octets)

-- the frames of a sender among releases that are numbered from n on
abbrev pub metered_from : ℕ → ℕ → List Release → List Metered
metered_from i n [] = []
metered_from i n (r ∷ releases) =
    if r.sender == i then metered_at n r ∷ metered_from i (n + 1) releases else metered_from i (n + 1) releases

-- each node keeps its buckets
abbrev pub AllKeepBuckets : DeclaredNetwork → List Release → Type 0
AllKeepBuckets network releases = (node : ℕ) → KeepsBuckets network releases node
