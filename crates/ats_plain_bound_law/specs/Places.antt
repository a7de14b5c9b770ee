use Rattle.std.specs.Prelude.{◌≡◌, ◌↔◌, ℕ, ◌==◌, ◌&&◌, List, [], ◌∷◌, ◌++◌, map, filter, find, length, Some}
use Rattle.std.specs.List.{flat_map, range_with_len}
use Rattle.ats_network.specs.Network.{DeclaredNetwork}
use Rattle.ats_certificate.specs.Certificate.{row_of}
use Rattle.ats_certificate.specs.Form.{last_of}
use Rattle.ats_certificate.specs.PortSums.{is_used}
use Rattle.ats_certificate.specs.Used.{places_of}
use Rattle.ats_certificate.specs.declared.row.Row.{Row}

-- the places of a network go port by port, and at each port class by class: of the classes 1 to 7 those that some
-- stream has there. Of rows, that of a place is the first with this port and class, and the last is behind all others
pub record PlacesAreReckoned : Type 0 where
  pub all : (network : DeclaredNetwork) → places_of network
      ≡ flat_map (λ port. map (λ class. (port, class))
      (filter (λ class. is_used network port class) (1 ∷ 2 ∷ 3 ∷ 4 ∷ 5 ∷ 6 ∷ 7 ∷ [])))
      (range_with_len 0 (length network.topology.ports))
  pub row : (rows : List Row) (port class : ℕ) → row_of rows port class
      ≡ find (λ (row : Row). row.port == port && row.class == class) rows
  pub last : (rows : List Row) (row : Row) → (last_of rows ≡ Some row)
      ↔ ((before : List Row) × (before ++ row ∷ [] ≡ rows))
