use Rattle.std.specs.Prelude.{◌≡◌, ℕ, ◌<◌, ◌≤◌, Bool, ◌&&◌, ◌==◌, nat_le, nat_lt, List, length, filter, sum_by}
use Rattle.std.specs.Prelude.{slice_index, slice_index_or}
use Rattle.ats_network.specs.Network.{DeclaredNetwork}
use Rattle.ats_certificate.specs.declared.row.Row.{Row}
use Rattle.ats_trace.specs.Journey.{Travel}
use Rattle.ats_trace.specs.Projections.{Crossing, crossings_by}

-- a frame is at the port that it crosses: it has come to the port's node by this time, and its transmission ends later
abbrev pub is_there : ℕ → Crossing → Bool
is_there time c = nat_le c.came time && nat_lt time c.sent.end

-- so is a frame of this class
abbrev pub is_held : ℕ → ℕ → Crossing → Bool
is_held class time c = c.sent.class == class && is_there time c

-- the occupancy of a port and class at a time of a run: the wire bits of all frames of the class that are at the port
abbrev pub occupancy : DeclaredNetwork → List Travel → ℕ → ℕ → ℕ → ℕ
occupancy network run port class time =
    sum_by (λ (c : Crossing). c.sent.bits) (filter (is_held class time) (crossings_by network run port))

-- the greatest of the numbers that belong to all times
pub record IsPeak (at : ℕ → ℕ) (peak : ℕ) : Type 0 where
  pub most : (time : ℕ) → at time ≤ peak
  pub reached : (time : ℕ) × (at time ≡ peak)

-- for rows past the last one
abbrev pub no_row : Row
no_row = record {
  port = 0;
  class = 0;
  higher = 0;
  equal = 0;
  bursts = 0;
  lower = 0;
  least = 0;
  wait = 0;
  bound = 0;
}

-- the row with a number
abbrev pub row_at : List Row → ℕ → Row
row_at rows n = slice_index_or rows n no_row

-- for each row, in order, the greatest occupancy of its port and class over all times of a run
pub record ArePeaks (network : DeclaredNetwork) (run : List Travel) (rows : List Row) (peaks : List ℕ) : Type 0 where
  pub count : length peaks ≡ length rows
  pub each : (n : ℕ) → n < length rows
      → IsPeak (occupancy network run (row_at rows n).port (row_at rows n).class) (slice_index peaks n)

-- a row's port is one of so many, and its class is one
pub record HasPlace (ports : ℕ) (row : Row) : Type 0 where
  pub port : row.port < ports
  pub class : row.class ≤ 7
