use Rattle.std.specs.Prelude.{◌≡◌, ◌↔◌, ℕ, ◌≤◌, List, map, length, Some, slice_get, slice_index}
use Rattle.ats_network.specs.Network.{DeclaredNetwork}
use Rattle.ats_certificate.specs.declared.row.Row.{Row}
use Rattle.ats_trace.specs.Journey.{Travel}
use Rattle.ats_buffer.specs.Buffer.{buffer_at, buffers_of}
use Rattle.ats_buffer.specs.Occupancy.{ArePeaks, occupancy}

-- each row has the buffer of its port and class; and of a run it has a peak: at some time so many bits are held at its
-- port in its class, and at no time more
pub record BuffersAreReckoned : Type 0 where
  pub buffers : (network : DeclaredNetwork) (rows : List Row) → buffers_of network rows
      ≡ map (λ (row : Row). buffer_at network rows row.port row.class) rows
  pub peaks : (network : DeclaredNetwork) (run : List Travel) (rows : List Row) (peaks : List ℕ)
      → ArePeaks network run rows peaks
      ↔ ((length peaks ≡ length rows) × ((n : ℕ) (row : Row) → slice_get rows n ≡ Some row
      → ((time : ℕ) → occupancy network run row.port row.class time ≤ slice_index peaks n)
      × ((time : ℕ) × (occupancy network run row.port row.class time ≡ slice_index peaks n))))
