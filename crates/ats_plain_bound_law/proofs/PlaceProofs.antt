use Rattle.std.proofs.Common.{◌≡◌, ℕ, suc, ◌+◌, ◌-◌, List, [], ◌∷◌, ◌++◌, length, slice_get, Some, refl, sym, ap}
use Rattle.std.proofs.Common.{◌∙◌, arith}
use Rattle.std.specs.List.{flat_map, range_with_len}
use Rattle.std.proofs.lemmas.Option.{none-some, same_Some}
use Rattle.ats_topology.specs.declared.port.Port.{Port}
use Rattle.ats_network.specs.Network.{DeclaredNetwork}
use Rattle.ats_certificate.specs.Form.{last_of}
use Rattle.ats_certificate.specs.Used.{places_at, places_from}
use Rattle.ats_certificate.specs.declared.row.Row.{Row}
use Rattle.ats_plain_bound_law.specs.Places.{PlacesAreReckoned}

-- Which places a network has, which row is that of a place, and which is the last.

-- the places of ports that are numbered from here on
from_here : (network : DeclaredNetwork) (port : ℕ) (ports : List Port) → places_from network port ports
    ≡ flat_map (places_at network) (range_with_len port (length ports))
from_here network port [] = refl
from_here network port (one ∷ ports) =
    ap (λ (rest : List (ℕ × ℕ)). places_at network port ++ rest) (from_here network (port + 1) ports)

-- one row more before others leaves their last
behind : (one next : Row) (rows : List Row) → last_of (one ∷ next ∷ rows) ≡ last_of (next ∷ rows)
behind one next rows =
    ap (slice_get (one ∷ next ∷ rows)) (let e : suc (suc (length rows)) - 1 ≡ suc (length rows) = omega arith in e)
    ∙ sym (ap (slice_get (next ∷ rows)) (let e : suc (length rows) - 1 ≡ length rows = omega arith in e))

-- the last row has all others before it
gives : (rows : List Row) (row : Row) → last_of rows ≡ Some row → (before : List Row) × (before ++ row ∷ [] ≡ rows)
gives [] row is = absurd (none-some row is)
gives (one ∷ []) row is = ([], ap (λ (r : Row). r ∷ []) (sym (same_Some one row is)))
gives (one ∷ next ∷ rows) row is =
    let rest = gives (next ∷ rows) row (sym (behind one next rows) ∙ is) in
    (one ∷ rest.0, ap (λ (r : List Row). one ∷ r) rest.1)

-- a row with none behind it is the last
takes : (before : List Row) (row : Row) → last_of (before ++ row ∷ []) ≡ Some row
takes [] row = refl
takes (one ∷ []) row = refl
takes (one ∷ next ∷ before) row = behind one next (before ++ row ∷ []) ∙ takes (next ∷ before) row

pub places_are_reckoned : PlacesAreReckoned
places_are_reckoned = record {
  all = λ network. from_here network 0 network.topology.ports;
  row = λ rows port class. refl;
  last = λ rows row. (gives rows row, (λ is. ap last_of (sym is.1) ∙ takes is.0 row));
}
