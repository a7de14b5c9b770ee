-- Routes of streams: their places and their ports.
use Rattle.std.proofs.Common.{◌≡◌, ℕ, zero, suc, ◌+◌, ◌*◌, ◌<◌, List, [], ◌∷◌, ◌++◌, length, get_or, take, set}
use Rattle.std.proofs.Common.{refl, ap, add-one, arith}
use Rattle.ats_admission_state.specs.Routes.{places_along}

places_suc : (path classes : List ℕ) (hop : ℕ) → length classes ≡ length path → hop < length path
    → places_along (take (suc hop) path) (take (suc hop) classes)
    ≡ places_along (take hop path) (take hop classes) ++ (8 * get_or path hop 0 + get_or classes hop 0) ∷ []
places_suc [] classes hop same within = absurd (omega arith)
places_suc (port ∷ path) [] hop same within = absurd (omega arith)
places_suc (port ∷ path) (class ∷ classes) zero same within = refl
places_suc (port ∷ path) (class ∷ classes) (suc hop) same within =
    ap (λ (places : List ℕ). (8 * port + class) ∷ places) (places_suc path classes hop (omega arith) (omega arith))

-- the places of the first ports, with one port more
pub places_more : (path classes : List ℕ) (hop : ℕ) → length classes ≡ length path → hop < length path
    → places_along (take (hop + 1) path) (take (hop + 1) classes)
    ≡ places_along (take hop path) (take hop classes) ++ (8 * get_or path hop 0 + get_or classes hop 0) ∷ []
places_more path classes hop same within = rw add-one (places_suc path classes hop same within)

set_suc : (xs : List ℕ) (i v : ℕ) → i < length xs → take (suc i) (set xs i v) ≡ take i xs ++ v ∷ []
set_suc [] i v within = absurd (omega arith)
set_suc (x ∷ xs) zero v within = refl
set_suc (x ∷ xs) (suc i) v within = ap (λ (ys : List ℕ). x ∷ ys) (set_suc xs i v (omega arith))

-- a list whose element behind the first ones is set, up to it
pub take_set : (xs : List ℕ) (i v : ℕ) → i < length xs → take (i + 1) (set xs i v) ≡ take i xs ++ v ∷ []
take_set xs i v within = rw add-one (set_suc xs i v within)

pub places-length : (path classes : List ℕ) → length classes ≡ length path
    → length (places_along path classes) ≡ length path
places-length [] classes same = refl
places-length (port ∷ path) [] same = absurd (omega arith)
places-length (port ∷ path) (class ∷ classes) same = ap suc (places-length path classes (omega arith))

pub places_at : (path classes : List ℕ) (hop d : ℕ) → length classes ≡ length path → hop < length path
    → get_or (places_along path classes) hop d ≡ 8 * get_or path hop d + get_or classes hop d
places_at [] classes hop d same within = absurd (omega arith)
places_at (port ∷ path) [] hop d same within = absurd (omega arith)
places_at (port ∷ path) (class ∷ classes) zero d same within = refl
places_at (port ∷ path) (class ∷ classes) (suc hop) d same within =
    places_at path classes hop d (omega arith) (omega arith)
