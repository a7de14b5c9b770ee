-- The lines of classes.
use Rattle.std.proofs.Common.{◌≡◌, ℕ, ◌+◌, ◌<◌, List, [], ◌∷◌, ◌++◌, length, take, get_or, sym, ◌∙◌, ap, arith}
use Rattle.std.specs.List.{flat_map, enumerate_from}
use Rattle.std.proofs.lemmas.List.{flat_map_more, take_more, take_all}
use Rattle.std.proofs.lemmas.List.FromFn.{length-enumerate_from, get_or-enumerate_from}
use Rattle.ats_tally.specs.declared.reason.Reason.{Reason}

-- the line of the next class
pub next_class : (line : ℕ × Reason → List ℕ) (reasons : List Reason) (n : ℕ) (reason : Reason)
    (x before after : List ℕ) → n < length reasons → reason ≡ get_or reasons n reason
    → before ≡ x ++ flat_map line (take n (enumerate_from 1 reasons)) → after ≡ before ++ line (n + 1, reason)
    → after ≡ x ++ flat_map line (take (n + 1) (enumerate_from 1 reasons))
next_class line reasons n reason x before after within is so_far written =
    let numbered : List (ℕ × Reason) = enumerate_from 1 reasons in
    let inside : n < length numbered = omega (arith, length-enumerate_from 1 reasons) in
    let at_n : get_or numbered n (0, reason) ≡ (n + 1, reason) =
    get_or-enumerate_from 1 reasons n (0, reason) within
    ∙ ap (λ (k : ℕ). (k, get_or reasons n reason)) (omega arith)
    ∙ ap (λ (r : Reason). (n + 1, r)) (sym is) in
    let more : take (n + 1) numbered ≡ take n numbered ++ (n + 1, reason) ∷ [] =
    take_more numbered n (0, reason) inside ∙ ap (λ (p : ℕ × Reason). take n numbered ++ p ∷ []) at_n in
    written ∙ ap (λ (t : List ℕ). t ++ line (n + 1, reason)) so_far
    ∙ flat_map_more line x (take n numbered) (n + 1, reason)
    ∙ sym (ap (λ (l : List (ℕ × Reason)). x ++ flat_map line l) more)

-- all classes are the first so many
pub all_classes : (line : ℕ × Reason → List ℕ) (reasons : List Reason) (n : ℕ) (x text : List ℕ)
    → length reasons < n + 1 → text ≡ x ++ flat_map line (take n (enumerate_from 1 reasons))
    → text ≡ x ++ flat_map line (enumerate_from 1 reasons)
all_classes line reasons n x text end written =
    written ∙ ap (λ (l : List (ℕ × Reason)). x ++ flat_map line l)
    (take_all n (enumerate_from 1 reasons) (omega (arith, length-enumerate_from 1 reasons)))
