-- The sums for the listeners of a stream, one by one.
use Rattle.std.proofs.Common.{◌≡◌, ℕ, ◌+◌, ◌≤◌, suc, List, [], ◌∷◌, ◌++◌, length, take, get_or, sym, ap, ◌∙◌}
use Rattle.std.proofs.Common.{append_assoc, arith}
use Rattle.std.proofs.lemmas.List.{get_or-map, length-map, take_all, take_more}
use Rattle.ats_streams.specs.Branches.{leg_at, routes_of}
use Rattle.ats_streams.specs.Stream.{DeclaredStream}
use Rattle.ats_streams.proofs.BranchLemmas.{routes-length}
use Rattle.ats_certificate.specs.Certificate.{bound_on, sums_of}
use Rattle.ats_certificate.specs.declared.row.Row.{Row}

-- a stream has a sum more than branches
pub sums-length : (rows : List Row) (stream : DeclaredStream)
    → length (sums_of rows stream) ≡ suc (length stream.branches)
sums-length rows stream =
    length-map (routes_of stream.ports stream.branches) (bound_on rows stream)
    ∙ routes-length stream.ports stream.branches

pub sum-at : (rows : List Row) (stream : DeclaredStream) (leg : ℕ) → leg ≤ length stream.branches
    → get_or (sums_of rows stream) leg 0 ≡ bound_on rows stream (leg_at (routes_of stream.ports stream.branches) leg)
sum-at rows stream leg within =
    get_or-map (bound_on rows stream) (routes_of stream.ports stream.branches) leg [] 0
    (omega (arith, within, routes-length stream.ports stream.branches))

pub sums_more : (rows : List Row) (stream : DeclaredStream) (front now next : List ℕ) (leg sum : ℕ)
    → leg ≤ length stream.branches → now ≡ front ++ take leg (sums_of rows stream)
    → sum ≡ bound_on rows stream (leg_at (routes_of stream.ports stream.branches) leg) → next ≡ now ++ sum ∷ []
    → next ≡ front ++ take (leg + 1) (sums_of rows stream)
sums_more rows stream front now next leg sum within now_is sum_is next_is =
    let sums : List ℕ = sums_of rows stream in
    next_is ∙ ap (λ (l : List ℕ). l ++ sum ∷ []) now_is ∙ append_assoc front (take leg sums) (sum ∷ [])
    ∙ ap (λ (n : ℕ). front ++ (take leg sums ++ n ∷ [])) (sum_is ∙ sym (sum-at rows stream leg within))
    ∙ ap (λ (l : List ℕ). front ++ l)
    (sym (take_more sums leg 0 (omega (arith, within, sums-length rows stream))))

pub sums_all : (rows : List Row) (stream : DeclaredStream) (front now : List ℕ) (leg : ℕ)
    → 1 + length stream.branches ≤ leg → now ≡ front ++ take leg (sums_of rows stream)
    → now ≡ front ++ sums_of rows stream
sums_all rows stream front now leg past now_is =
    now_is ∙ ap (λ (l : List ℕ). front ++ l)
    (take_all leg (sums_of rows stream) (omega (arith, past, sums-length rows stream)))
