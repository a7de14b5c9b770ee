use Rattle.std.specs.Prelude.{◌≡◌, ℕ, List, length}
use Rattle.std.specs.List.{flat_map}
use Rattle.ats_network.specs.Network.{DeclaredNetwork, IsNetwork}
use Rattle.ats_certificate.specs.Certificate.{sums_of}
use Rattle.ats_certificate.specs.declared.row.Row.{Row}
use Rattle.ats_tally.specs.Bounds.{RowsAt}

-- the rows of a certificate, by which the streams of a network are delayed
pub record NetworkRows : Type 0 where
  pub network : DeclaredNetwork
  pub rows : List Row

abbrev pub rows_for : DeclaredNetwork → List Row → NetworkRows
rows_for network rows = record { network = network; rows = rows }

-- the sum of its bounds for each listener, stream by stream
abbrev pub sums_for : DeclaredNetwork → List Row → List ℕ
sums_for network rows = flat_map (sums_of rows) network.streams

-- bounds at the ports of a network, with such a list
pub record AreDelays (network : DeclaredNetwork) (bounds : RowsAt) (sums : List ℕ) : Type 0 where
  pub rules : IsNetwork network
  pub ports : bounds.ports ≡ length network.topology.ports
  pub summed : sums ≡ sums_for network bounds.rows
