use Rattle.std.specs.Prelude.{◌≡◌, ℕ, IsTrue, List, [], ◌∷◌, ◌++◌, drop, map, Option, None, if◌then◌else◌}
use Rattle.ats_network.specs.Network.{DeclaredNetwork}
use Rattle.ats_certificate.specs.Form.{ComesAfter}
use Rattle.ats_certificate.specs.PortSums.{is_used}
use Rattle.ats_certificate.specs.Used.{places_from, places_of}
use Rattle.ats_certificate.specs.declared.row.Row.{Row}
use Rattle.ats_tally.specs.Reason.{first_some}
use Rattle.ats_tally.specs.declared.reason.Reason.{Reason}
use Rattle.ats_bound.specs.Least.{least_row, least_certificate}
use Rattle.ats_bound.specs.Reason.{overload}

-- the least row of a port and a class that some stream uses there; of another none
abbrev pub rows_at : DeclaredNetwork → ℕ × ℕ → List Row
rows_at network place = if is_used network place.0 place.1 then least_row network place ∷ [] else []

-- the overload of a port and a class that some stream uses there, if they are overloaded
abbrev pub overload_at : DeclaredNetwork → ℕ × ℕ → Option Reason
overload_at network place = if is_used network place.0 place.1 then overload network place else None

-- the places of the ports from this number on
abbrev pub places_past : DeclaredNetwork → ℕ → List (ℕ × ℕ)
places_past network port = places_from network port (drop port network.topology.ports)

-- where some stream uses the place, its least row comes after these
abbrev pub IsNext : DeclaredNetwork → List Row → ℕ × ℕ → Type 0
IsNext network rows place = IsTrue (is_used network place.0 place.1) → ComesAfter rows (least_row network place)

-- the first rows of the least certificate, and the places whose rows are to come; no place so far is overloaded
pub record IsBegun (network : DeclaredNetwork) (rows : List Row) (left : List (ℕ × ℕ)) : Type 0 where
  pub whole : rows ++ map (least_row network) left ≡ least_certificate network
  pub loads : first_some (overload network) left ≡ first_some (overload network) (places_of network)
