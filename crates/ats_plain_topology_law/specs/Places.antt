use Rattle.std.specs.Prelude.{◌≡◌, ◌↔◌, ℕ, ◌<◌, ◌≢◌, ◌==◌, List, [], length, filter, slice_index_or, Some}
use Rattle.std.specs.List.{range_with_len}
use Rattle.ats_num.specs.Places.{place_of}
use Rattle.ats_topology.specs.Port.{leaving, port_at, port_between}
use Rattle.ats_topology.specs.declared.port.Port.{Port}

-- a name is found at its first place in a list, byte by byte, and nowhere where it is not in the list
pub record NamesAreFirst : Type 0 where
  pub name : (name : List ℕ) (names : List (List ℕ)) (n : ℕ) → (place_of name names ≡ Some n)
      ↔ ((n < length names) × (slice_index_or names n [] ≡ name)
      × ((k : ℕ) → k < n → slice_index_or names k [] ≢ name))

-- the port from one node to another is the first of those that are, if there is one; and of a node's own ports each is
-- told once, by ascending number
pub record PortsAreFirst : Type 0 where
  pub between : (a b : ℕ) (ports : List Port) (p : ℕ) → (port_between a b ports ≡ Some p)
      ↔ ((p < length ports) × ((port_at ports p).from ≡ a) × ((port_at ports p).to ≡ b)
      × ((q : ℕ) → q < p → ¬ (((port_at ports q).from ≡ a) × ((port_at ports q).to ≡ b))))
  pub own : (node : ℕ) (ports : List Port) → leaving node ports
      ≡ filter (λ p. (port_at ports p).from == node) (range_with_len 0 (length ports))

pub record PlacesAreGiven : Type 0 where
  pub names : NamesAreFirst
  pub ports : PortsAreFirst
