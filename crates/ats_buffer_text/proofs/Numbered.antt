-- The lines of numbered rows.
use Rattle.std.proofs.Common.{◌≡◌, ℕ, ◌+◌, ◌<◌, List, [], ◌∷◌, ◌++◌, length, take, get_or, sym, ◌∙◌, ap, arith}
use Rattle.std.specs.List.{flat_map, enumerate_from}
use Rattle.std.proofs.lemmas.List.{flat_map_more, take_more, take_all}
use Rattle.std.proofs.lemmas.List.FromFn.{length-enumerate_from, get_or-enumerate_from}
use Rattle.ats_certificate.specs.declared.row.Row.{Row}

-- the line of the next row
pub next_row : (line : ℕ × Row → List ℕ) (rows : List Row) (n : ℕ) (d : Row) (x before after : List ℕ)
    → n < length rows → before ≡ x ++ flat_map line (take n (enumerate_from 0 rows))
    → after ≡ before ++ line (n, get_or rows n d) → after ≡ x ++ flat_map line (take (n + 1) (enumerate_from 0 rows))
next_row line rows n d x before after within so_far written =
    let numbered : List (ℕ × Row) = enumerate_from 0 rows in
    let inside : n < length numbered = omega (arith, length-enumerate_from 0 rows) in
    let at_n : get_or numbered n (0, d) ≡ (n, get_or rows n d) =
    get_or-enumerate_from 0 rows n (0, d) within ∙ ap (λ (k : ℕ). (k, get_or rows n d)) (omega arith) in
    let more : take (n + 1) numbered ≡ take n numbered ++ (n, get_or rows n d) ∷ [] =
    take_more numbered n (0, d) inside ∙ ap (λ (p : ℕ × Row). take n numbered ++ p ∷ []) at_n in
    written ∙ ap (λ (t : List ℕ). t ++ line (n, get_or rows n d)) so_far
    ∙ flat_map_more line x (take n numbered) (n, get_or rows n d)
    ∙ sym (ap (λ (l : List (ℕ × Row)). x ++ flat_map line l) more)

-- all rows are the first so many
pub all_rows : (line : ℕ × Row → List ℕ) (rows : List Row) (n : ℕ) (x text : List ℕ) → length rows < n + 1
    → text ≡ x ++ flat_map line (take n (enumerate_from 0 rows)) → text ≡ x ++ flat_map line (enumerate_from 0 rows)
all_rows line rows n x text end written =
    written ∙ ap (λ (l : List (ℕ × Row)). x ++ flat_map line l)
    (take_all n (enumerate_from 0 rows) (omega (arith, length-enumerate_from 0 rows)))
