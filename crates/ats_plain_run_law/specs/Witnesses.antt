use Rattle.std.specs.Prelude.{◌≡◌, ◌↔◌, ℕ, ◌+◌, ◌<◌, ◌≤◌, List, [], length, slice_index, slice_index_or}
use Rattle.ats_streams.specs.Branches.{routes_of}
use Rattle.ats_streams.specs.Stream.{DeclaredStream}
use Rattle.ats_network.specs.Network.{DeclaredNetwork}
use Rattle.ats_network.specs.Senders.{sender_at}
use Rattle.ats_certificate.specs.Certificate.{bound_on}
use Rattle.ats_certificate.specs.declared.row.Row.{Row}
use Rattle.ats_trace.specs.Ways.{route_to}
use Rattle.ats_witness.specs.Burst.{port_on_route}
use Rattle.ats_witness.specs.Found.{IsFirstGreatest, bound_for, greatest_wait}
use Rattle.ats_witness.specs.Last.{last_key}

-- of a witness's run: among frames that tie, those of one sender come behind all others, and else the lower number
-- comes first; and a frame waits behind a port as long as it may
pub record OrdersAreTraced : Type 0 where
  pub own : (last sender frame : ℕ) → sender ≡ last → last_key last sender frame ≡ 4294967296 + frame
  pub other : (last sender frame : ℕ) → ¬ (sender ≡ last) → last_key last sender frame ≡ frame
  pub wait : (frame spread : ℕ) → greatest_wait frame spread ≡ spread

-- a number is the first greatest of some where none is greater and none before it as great; the port of a hop is that
-- on the route to the listener; and the bound for a listener is the sum of the bounds along the route there
pub record FoundWordsAreTraced : Type 0 where
  pub first : (numbers : List ℕ) (place : ℕ) → IsFirstGreatest numbers place
      ↔ ((place < length numbers)
      × ((k : ℕ) → k < length numbers → slice_index numbers k ≤ slice_index numbers place)
      × ((k : ℕ) → k < place → slice_index numbers k < slice_index numbers place))
  pub port : (network : DeclaredNetwork) (sender listener hop : ℕ) → port_on_route network sender listener hop
      ≡ slice_index (route_to (sender_at network sender) listener) hop
  pub bound : (rows : List Row) (stream : DeclaredStream) (listener : ℕ) → bound_for rows stream listener
      ≡ bound_on rows stream (slice_index_or (routes_of stream.ports stream.branches) listener [])

pub record WitnessesAreTraced : Type 0 where
  pub orders : OrdersAreTraced
  pub found : FoundWordsAreTraced
