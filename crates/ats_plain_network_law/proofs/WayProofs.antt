use Rattle.std.proofs.Common.{◌≡◌, ℕ, ◌<◌, ◌≤◌, Bool, true, false, cond, List, [], ◌∷◌, ◌++◌, drop, eqb}
use Rattle.std.proofs.Common.{find, length, map, zip, Option, Some, None, option_map, unwrap_or, refl, sym, ap, ◌∙◌}
use Rattle.std.proofs.Common.{arith, ⊎_elim}
use Rattle.std.specs.List.{before_first, flat_map, list_any}
use Rattle.std.specs.Option.{option_or}
use Rattle.std.proofs.lemmas.Bool.{cases_lt}
use Rattle.ats_streams.specs.Branches.{routes_of}
use Rattle.ats_topology.specs.Topology.{DeclaredTopology}
use Rattle.ats_topology.specs.Walks.{IsLeastWalk, IsWalk}
use Rattle.ats_topology.proofs.LawLemmas.{walk_is_one}
use Rattle.ats_network.specs.Class.{before_along, before_on, class_along}
use Rattle.ats_network.specs.Listeners.{Listener, further_listeners, station_of}
use Rattle.ats_network.specs.Rates.{in_front_on}
use Rattle.ats_network.specs.Shortest.{first_walk, shortest_of}
use Rattle.ats_network.proofs.FirstLemmas.{IsLeastOf, first_of-none, first_of-some}
use Rattle.ats_network.proofs.RouteLemmas.{IsFirstWalk, first_walk-is, walk_found}
use Rattle.ats_plain_network_law.specs.Ways.{ListenersAreKnown, PlacesAreKnown, WalksAreKnown, WaysAreKnown}

-- Where ports and classes stand on a sender's way, which walks are computed, and who listens.

-- the second of a pair, or 0
abbrev second_of : Option (ℕ × ℕ) → ℕ
second_of o = unwrap_or (option_map (λ (x : ℕ × ℕ). x.1) o) 0

class_beside : (port : ℕ) (path classes : List ℕ) → class_along port path classes
    ≡ unwrap_or (option_map (λ (x : ℕ × ℕ). x.1) (find (λ (x : ℕ × ℕ). eqb x.0 port) (zip path classes))) 0
class_beside port [] classes = refl
class_beside port (p ∷ path) [] = refl
class_beside port (p ∷ path) (class ∷ classes) = by (eqb p port) (class_beside port path classes)
  where
    by : (t : Bool)
        → class_along port path classes ≡ second_of (find (λ (x : ℕ × ℕ). eqb x.0 port) (zip path classes))
        → cond t class (class_along port path classes)
        ≡ second_of (cond t (Some (p, class)) (find (λ (x : ℕ × ℕ). eqb x.0 port) (zip path classes)))
    by true more = refl
    by false more = more

-- the number of a pair that has this one behind it, and the first of such pairs
abbrev leads_on : ℕ → ℕ × ℕ → Bool
leads_on port x = eqb x.1 port

abbrev first_of_pair : ℕ × ℕ → ℕ
first_of_pair x = x.0

before_one : (port : ℕ) (route : List ℕ)
    → before_along port route ≡ option_map first_of_pair (find (leads_on port) (zip route (drop 1 route)))
before_one port [] = refl
before_one port (p ∷ []) = refl
before_one port (p ∷ q ∷ path) = by (eqb q port) (before_one port (q ∷ path))
  where
    by : (t : Bool)
        → before_along port (q ∷ path) ≡ option_map first_of_pair (find (leads_on port) (zip (q ∷ path) path))
        → cond t (Some p) (before_along port (q ∷ path))
        ≡ option_map first_of_pair (cond t (Some (p, q)) (find (leads_on port) (zip (q ∷ path) path)))
    by true more = refl
    by false more = more

find-append : {X : Type 0} (t : X → Bool) (xs ys : List X) → find t (xs ++ ys) ≡ option_or (find t xs) (find t ys)
find-append t [] ys = refl
find-append {X} t (x ∷ xs) ys = by (t x) (find-append t xs ys)
  where
    by : (b : Bool) → find t (xs ++ ys) ≡ option_or (find t xs) (find t ys)
        → cond b (Some x) (find t (xs ++ ys)) ≡ option_or (cond b (Some x) (find t xs)) (find t ys)
    by true more = refl
    by false more = more

map-or : (o p : Option (ℕ × ℕ))
    → option_map first_of_pair (option_or o p) ≡ option_or (option_map first_of_pair o) (option_map first_of_pair p)
map-or None p = refl
map-or (Some x) p = refl

abbrev neighbours : List (List ℕ) → List (ℕ × ℕ)
neighbours routes = flat_map (λ (route : List ℕ). zip route (drop 1 route)) routes

before_each : (port : ℕ) (routes : List (List ℕ))
    → before_on port routes ≡ option_map first_of_pair (find (leads_on port) (neighbours routes))
before_each port [] = refl
before_each port (route ∷ routes) =
    ap (λ (o : Option ℕ). option_or o (before_on port routes)) (before_one port route)
    ∙ ap (option_or (option_map first_of_pair (find (leads_on port) (zip route (drop 1 route)))))
    (before_each port routes)
    ∙ sym (map-or (find (leads_on port) (zip route (drop 1 route))) (find (leads_on port) (neighbours routes)))
    ∙ sym (ap (option_map first_of_pair) (find-append (leads_on port) (zip route (drop 1 route)) (neighbours routes)))

front : (port : ℕ) (routes : List (List ℕ)) → in_front_on port routes
    ≡ before_first (λ p. eqb p port) (unwrap_or (find (list_any (λ p. eqb p port)) routes) [])
front port [] = refl
front port (route ∷ routes) = by (list_any (λ p. eqb p port) route) (front port routes)
  where
    by : (t : Bool) → in_front_on port routes
        ≡ before_first (λ p. eqb p port) (unwrap_or (find (list_any (λ p. eqb p port)) routes) [])
        → cond t (before_first (λ p. eqb p port) route) (in_front_on port routes)
        ≡ before_first (λ p. eqb p port)
        (unwrap_or (cond t (Some route) (find (list_any (λ p. eqb p port)) routes)) [])
    by true more = refl
    by false more = more

places : PlacesAreKnown
places = record {
  class = λ s port. class_beside port s.ports s.classes;
  before = λ s port. before_each port (routes_of s.ports s.branches);
  over = λ s port. front port (routes_of s.ports s.branches);
}

-- the walks of so many ports
abbrev by_length : DeclaredTopology → ℕ → ℕ → ℕ → Option (List ℕ)
by_length topology a b n = first_walk n topology.ports a b

computed : (topology : DeclaredTopology) (a b : ℕ) (walk : List ℕ) → shortest_of topology a b ≡ Some walk
    → IsLeastWalk topology.ports a b walk × (length walk < length topology.nodes)
computed topology a b walk h =
    let l : IsLeastOf (by_length topology a b) (length topology.nodes) walk =
    first_of-some (by_length topology a b) (length topology.nodes) walk h in
    let w : IsFirstWalk topology.ports a b l.number walk = first_walk-is l.number topology.ports a b walk l.gives in (
      record {
        walk_is = w.is;
        least = λ other is. least l w.long other is;
        first = λ other is long. w.first other is (long ∙ w.long);
      },
      omega (arith, w.long, l.below),
    )
  where
    least : (l : IsLeastOf (by_length topology a b) (length topology.nodes) walk) → length walk ≡ l.number
        → (other : List ℕ) → IsWalk topology.ports a b other → length walk ≤ length other
    least l long other is = ⊎_elim
        (λ below. absurd (walk_found (length other) topology.ports a b other is refl (l.before (length other) below)))
        (λ above. omega arith)
        (cases_lt (length other) l.number)

found : (topology : DeclaredTopology) (a b : ℕ) (walk : List ℕ) → IsLeastWalk topology.ports a b walk
    → length walk < length topology.nodes → shortest_of topology a b ≡ Some walk
found topology a b walk least short = by (shortest_of topology a b) refl
  where
    by : (o : Option (List ℕ)) → shortest_of topology a b ≡ o → shortest_of topology a b ≡ Some walk
    by None e = absurd (walk_found (length walk) topology.ports a b walk least.walk_is refl
        (first_of-none (by_length topology a b) (length topology.nodes) e (length walk) short))
    by (Some other) e =
        e ∙ ap Some (walk_is_one topology.ports a b other walk (computed topology a b other e).0 least)

walks : WalksAreKnown
walks = record {
  shortest = λ topology a b walk. (computed topology a b walk, (λ is. found topology a b walk is.0 is.1));
  joins = λ topology route. refl;
}

-- the listener of a leg and a route that goes by its node's name
abbrev named : DeclaredTopology → List ℕ × List ℕ → Listener
named topology x = record { name = Some (station_of topology x.1); leg = x.0; route = x.1 }

further : (topology : DeclaredTopology) (legs routes : List (List ℕ))
    → further_listeners topology legs routes ≡ map (named topology) (zip legs routes)
further topology [] routes = refl
further topology (leg ∷ legs) [] = refl
further topology (leg ∷ legs) (route ∷ routes) =
    ap (λ (l : List Listener). named topology (leg, route) ∷ l) (further topology legs routes)

listeners : ListenersAreKnown
listeners = record {
  all = λ topology s. refl;
  some = λ topology leg route legs routes.
      ap (λ (l : List Listener). (let first : Listener = record { name = None; leg = leg; route = route } in first ∷ l))
      (further topology legs routes);
  no_leg = λ topology routes. refl;
  no_route = λ topology leg legs. refl;
}

pub ways_are_known : WaysAreKnown
ways_are_known = record {
  places = places;
  walks = walks;
  listeners = listeners;
}
