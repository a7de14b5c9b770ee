use Rattle.std.specs.Prelude.{◌≡◌, ℕ, ◌+◌, ◌<◌, ◌≤◌, ◌&&◌, ◌==◌, List, length, take, slice_index_or, Some}
use Rattle.std.specs.Prelude.{if◌then◌else◌}
use Rattle.std.specs.List.{list_any}
use Rattle.ats_class_table.specs.Table.{Table, value_at}
use Rattle.ats_streams.specs.Stream.{DeclaredStream}
use Rattle.ats_network.specs.Edits.{no_stream}
use Rattle.ats_network.specs.Network.{DeclaredNetwork}
use Rattle.ats_certificate.specs.declared.row.Row.{Row}
use Rattle.ats_buffer.specs.Buffer.{has_class, share_at, shares_at}

-- a table has, for each port of a network and each class from 1 to 7, what the first streams may have there together
pub record AreSums (network : DeclaredNetwork) (rows : List Row) (count : ℕ) (table : Table ℕ) : Type 0 where
  pub ports : table.ports ≡ length network.topology.ports
  pub each : (port class : ℕ) → port < length network.topology.ports → 1 ≤ class → class ≤ 7
      → value_at table port class ≡ Some (shares_at network rows port class (take count network.streams))

-- what a stream may have at a port in a class, where the port is one of these
abbrev pub share_among : DeclaredNetwork → List Row → DeclaredStream → List ℕ → ℕ → ℕ → ℕ
share_among network rows stream path port class = if list_any (λ p. p == port) path && has_class port class stream
    then share_at network rows port class stream else 0

-- a table has, for each port of a network and each class from 1 to 7, what the first streams may have there together,
-- and at these ports what the stream behind them may have too
pub record AreAdding (network : DeclaredNetwork) (rows : List Row) (count : ℕ) (path : List ℕ) (table : Table ℕ)
    : Type 0 where
  pub ports : table.ports ≡ length network.topology.ports
  pub each : (port class : ℕ) → port < length network.topology.ports → 1 ≤ class → class ≤ 7
      → value_at table port class ≡ Some (shares_at network rows port class (take count network.streams)
      + share_among network rows (slice_index_or network.streams count no_stream) path port class)
