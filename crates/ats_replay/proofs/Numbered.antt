-- The lines of numbered things, one after another.
use Rattle.std.proofs.Common.{◌≡◌, ◌∙◌, ℕ, ◌+◌, ◌<◌, List, [], ◌∷◌, ◌++◌, length, get_or, take, sym, ap, arith}
use Rattle.std.specs.List.{enumerate_from, flat_map}
use Rattle.std.proofs.lemmas.List.{flat_map_more, take_all, take_more}
use Rattle.std.proofs.lemmas.List.FromFn.{length-enumerate_from, get_or-enumerate_from}

-- one number more
numbered_more : {X : Type 0} (xs : List X) (n : ℕ) (d : X) → n < length xs
    → take (n + 1) (enumerate_from 0 xs) ≡ take n (enumerate_from 0 xs) ++ (n, get_or xs n d) ∷ []
numbered_more {X} xs n d within =
    let numbered : List (ℕ × X) = enumerate_from 0 xs in
    let inside : n < length numbered = omega (arith, length-enumerate_from 0 xs) in
    let at_n : get_or numbered n (0, d) ≡ (n, get_or xs n d) =
    get_or-enumerate_from 0 xs n (0, d) within ∙ ap (λ (k : ℕ). (k, get_or xs n d)) (omega arith) in
    take_more numbered n (0, d) inside ∙ ap (λ (p : ℕ × X). take n numbered ++ p ∷ []) at_n

-- the lines of the next
pub next_numbered : {X : Type 0} (line : ℕ × X → List ℕ) (xs : List X) (n : ℕ) (d : X) (x before after : List ℕ)
    → n < length xs → before ≡ x ++ flat_map line (take n (enumerate_from 0 xs))
    → after ≡ before ++ line (n, get_or xs n d)
    → after ≡ x ++ flat_map line (take (n + 1) (enumerate_from 0 xs))
next_numbered {X} line xs n d x before after within so_far lines =
    lines ∙ ap (λ (t : List ℕ). t ++ line (n, get_or xs n d)) so_far
    ∙ flat_map_more line x (take n (enumerate_from 0 xs)) (n, get_or xs n d)
    ∙ sym (ap (λ (pairs : List (ℕ × X)). x ++ flat_map line pairs) (numbered_more xs n d within))

-- all are the first so many
pub all_numbered : {X : Type 0} (line : ℕ × X → List ℕ) (xs : List X) (n : ℕ) (x text : List ℕ) → length xs < n + 1
    → text ≡ x ++ flat_map line (take n (enumerate_from 0 xs)) → text ≡ x ++ flat_map line (enumerate_from 0 xs)
all_numbered {X} line xs n x text end written =
    written ∙ ap (λ (pairs : List (ℕ × X)). x ++ flat_map line pairs)
    (take_all n (enumerate_from 0 xs) (omega (arith, length-enumerate_from 0 xs)))
