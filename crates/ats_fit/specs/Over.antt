use Rattle.std.specs.Prelude.{ℕ, Bool, false, ◌||◌, ◌&&◌, not, nat_lt, List, count_by, zip, Option, Some, None}
use Rattle.ats_streams.specs.Traffic.{is_declared_size}
use Rattle.ats_streams.specs.declared.traffic.Declared.{Declared}
use Rattle.ats_network.specs.Sender.{Sender, declared_of}
use Rattle.ats_network.specs.Network.{DeclaredNetwork, senders_of}
use Rattle.ats_fit.specs.declared.measured.Measured.{Measured}
use Rattle.ats_fit.specs.declared.measured.Sizes.{Sizes}

-- the least burst, where there is one, is above what is declared
abbrev pub is_burst_over : ℕ → Option ℕ → Bool
is_burst_over declared None = false
is_burst_over declared (Some burst) = nat_lt declared burst

-- the least or the greatest octets, where there are any, are no declared size
abbrev pub are_sizes_over : Declared → Option Sizes → Bool
are_sizes_over declared None = false
are_sizes_over declared (Some sizes) =
    not (is_declared_size declared sizes.least && is_declared_size declared sizes.greatest)

-- what is measured of a sender's releases is over what it declares
abbrev pub is_over : Sender × Measured → Bool
is_over pair =
    is_burst_over pair.0.burst_bits pair.1.burst_bits || are_sizes_over (declared_of pair.0) pair.1.sizes

-- how many senders that is true of
abbrev pub senders_over : DeclaredNetwork → List Measured → ℕ
senders_over network measured = count_by is_over (zip (senders_of network) measured)
