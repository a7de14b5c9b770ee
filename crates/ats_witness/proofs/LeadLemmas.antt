-- The ports in front of one, on the first of some routes that has it.
use Rattle.std.proofs.Common.{◌≡◌, ℕ, ◌+◌, ◌<◌, ◌≤◌, Bool, true, false, cond, List, [], ◌∷◌, drop, get_or, length}
use Rattle.std.proofs.Common.{ap, ◌∙◌}
use Rattle.std.specs.List.{All, before_first, list_any}
use Rattle.std.proofs.lemmas.Bool.{cond-false, cond-true}
use Rattle.std.proofs.Math.ListN.{drop_of_length-le}
use Rattle.std.proofs.lemmas.List.{drop_more}
use Rattle.std.proofs.lemmas.List.Elements.{All-head, All-tail}
use Rattle.ats_network.specs.Rates.{in_front_on}
use Rattle.ats_witness.proofs.TravelLemmas.{is_port}

-- a route without the port is passed over
pub passed_over : (port : ℕ) (routes : List (List ℕ)) (k : ℕ) → k < length routes
    → list_any (is_port port) (get_or routes k []) ≡ false
    → in_front_on port (drop k routes) ≡ in_front_on port (drop (k + 1) routes)
passed_over port routes k within not =
    ap (in_front_on port) (drop_more routes k [] within)
    ∙ cond-false (list_any (is_port port) (get_or routes k [])) (before_first (is_port port) (get_or routes k []))
    (in_front_on port (drop (k + 1) routes)) not

-- a route with it tells
pub told_here : (port : ℕ) (routes : List (List ℕ)) (k : ℕ) → k < length routes
    → list_any (is_port port) (get_or routes k []) ≡ true
    → in_front_on port (drop k routes) ≡ before_first (is_port port) (get_or routes k [])
told_here port routes k within has =
    ap (in_front_on port) (drop_more routes k [] within)
    ∙ cond-true (list_any (is_port port) (get_or routes k [])) (before_first (is_port port) (get_or routes k []))
    (in_front_on port (drop (k + 1) routes)) has

-- no route has it
pub told_nowhere : (port : ℕ) (routes : List (List ℕ)) (k : ℕ) → length routes ≤ k
    → in_front_on port (drop k routes) ≡ []
told_nowhere port routes k past = ap (in_front_on port) (drop_of_length-le routes past)

-- what holds of nothing, and in front of the port on each route, holds
pub each_in_front : (P : List ℕ → Type 0) (port : ℕ) (routes : List (List ℕ)) → P []
    → All (λ (route : List ℕ). P (before_first (is_port port) route)) routes → P (in_front_on port routes)
each_in_front P port [] none all = none
each_in_front P port (route ∷ routes) none all =
    by (list_any (is_port port) route) (each_in_front P port routes none (All-tail Here route routes all))
  where
    Here : List ℕ → Type 0
    Here l = P (before_first (is_port port) l)

    by : (b : Bool) → P (in_front_on port routes)
        → P (cond b (before_first (is_port port) route) (in_front_on port routes))
    by true rest = All-head Here route routes all
    by false rest = rest
