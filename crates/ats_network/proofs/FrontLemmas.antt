-- The ports in front of one, on the first of some routes that has it.
use Rattle.std.proofs.Common.{◌≡◌, ℕ, ◌+◌, ◌<◌, ◌≤◌, Bool, true, false, List, [], drop, get_or, length, take}
use Rattle.std.proofs.Common.{Some, None, sym, ap, ◌∙◌, arith, eqb}
use Rattle.std.specs.Prelude.{nat_lt, position}
use Rattle.std.specs.List.{before_first, list_any, position_or_len}
use Rattle.std.proofs.Math.ListN.{drop_of_length-le}
use Rattle.std.proofs.lemmas.Bool.{cond-false, cond-true, ltb-true, ltb-false}
use Rattle.std.proofs.lemmas.List.{drop_more}
use Rattle.std.proofs.lemmas.List.Folds.{list_any_at, list_any_none}
use Rattle.std.proofs.lemmas.List.Sums.{fails_before_first, passes_at_first}
use Rattle.std.proofs.lemmas.Option.{cond_some}
use Rattle.ats_facts.proofs.Options.{cond-none}
use Rattle.ats_network.specs.Rates.{in_front_on}

-- the number is this one
abbrev pub is_port : ℕ → ℕ → Bool
is_port port p = eqb p port

-- a port that a path does not have
not_on : (port : ℕ) (path : List ℕ) → position (is_port port) path ≡ None → list_any (is_port port) path ≡ false
not_on port path h =
    let place : ℕ = position_or_len (is_port port) path in
    let past : length path ≤ place = ltb-false place (length path) (cond-none (nat_lt place (length path)) place h) in
    list_any_none (is_port port) path (λ k d within. fails_before_first (is_port port) path k d (omega (arith, past)))

-- the place of a port on a path
record IsOn (port : ℕ) (path : List ℕ) (hop : ℕ) : Type 0 where
  has : list_any (is_port port) path ≡ true
  before : take hop path ≡ before_first (is_port port) path

on_path : (port : ℕ) (path : List ℕ) (hop : ℕ) → position (is_port port) path ≡ Some hop → IsOn port path hop
on_path port path hop h =
    let place : ℕ = position_or_len (is_port port) path in
    let parts = cond_some (nat_lt place (length path)) place hop h in
    let inside : place < length path = ltb-true place (length path) parts.0 in
    let at : is_port port (get_or path place 0) ≡ true = passes_at_first (is_port port) path 0 inside in
    record {
      has = list_any_at (is_port port) path place 0 inside at;
      before = ap (λ (n : ℕ). take n path) (sym parts.1);
    }

-- a route without the port is passed over
passed_over : (port : ℕ) (routes : List (List ℕ)) (k : ℕ) → k < length routes
    → list_any (is_port port) (get_or routes k []) ≡ false
    → in_front_on port (drop k routes) ≡ in_front_on port (drop (k + 1) routes)
passed_over port routes k within not =
    ap (in_front_on port) (drop_more routes k [] within)
    ∙ cond-false (list_any (is_port port) (get_or routes k [])) (before_first (is_port port) (get_or routes k []))
    (in_front_on port (drop (k + 1) routes)) not

-- a route with it tells
told_here : (port : ℕ) (routes : List (List ℕ)) (k : ℕ) → k < length routes
    → list_any (is_port port) (get_or routes k []) ≡ true
    → in_front_on port (drop k routes) ≡ before_first (is_port port) (get_or routes k [])
told_here port routes k within has =
    ap (in_front_on port) (drop_more routes k [] within)
    ∙ cond-true (list_any (is_port port) (get_or routes k [])) (before_first (is_port port) (get_or routes k []))
    (in_front_on port (drop (k + 1) routes)) has

-- no route has it
pub told_nowhere : (port : ℕ) (routes : List (List ℕ)) (k : ℕ) → length routes ≤ k
    → in_front_on port (drop k routes) ≡ []
told_nowhere port routes k past = ap (in_front_on port) (drop_of_length-le routes past)

-- a route that has it at a hop tells
pub told_at : (port : ℕ) (routes : List (List ℕ)) (k hop : ℕ) (path : List ℕ) → k < length routes
    → path ≡ get_or routes k [] → position (is_port port) path ≡ Some hop
    → take hop path ≡ in_front_on port (drop k routes)
told_at port routes k hop path within same at =
    let on = on_path port path hop at in
    on.before ∙ ap (before_first (is_port port)) same
    ∙ sym (told_here port routes k within (ap (list_any (is_port port)) (sym same) ∙ on.has))

-- one that does not have it is passed over
pub told_later : (port : ℕ) (routes : List (List ℕ)) (k : ℕ) (path : List ℕ) → k < length routes
    → path ≡ get_or routes k [] → position (is_port port) path ≡ None
    → in_front_on port (drop k routes) ≡ in_front_on port (drop (k + 1) routes)
told_later port routes k path within same none =
    passed_over port routes k within (ap (list_any (is_port port)) (sym same) ∙ not_on port path none)
