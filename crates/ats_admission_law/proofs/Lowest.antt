-- What is found at the lowest port of a path is what is found first in the order of a certificate's rows.
use Rattle.std.proofs.Common.{◌≡◌, ℕ, ◌+◌, ◌<◌, ◌≤◌, Bool, true, false, cond, List, [], ◌∷◌, ◌++◌, length, map, filter}
use Rattle.std.proofs.Common.{get_or, append_assoc, Option, Some, None, refl, sym, ap, subst, ◌∙◌, eqb, inl, inr, arith}
use Rattle.std.specs.Prelude.{fold, nat_lt, ◌||◌}
use Rattle.std.specs.List.{All, list_any}
use Rattle.std.specs.Option.{option_or, option_map}
use Rattle.std.proofs.lemmas.Bool.{cases_eq, eqb-true, eq-eqb, ltb-true, ltb-false, or_left, or_right}
use Rattle.std.proofs.lemmas.List.{append-nil}
use Rattle.std.proofs.lemmas.List.Folds.{list_any-append}
use Rattle.std.proofs.lemmas.List.Elements.{All-nil, All-push, All-weaker, filter-append}
use Rattle.ats_topology.specs.declared.port.Port.{Port}
use Rattle.ats_network.specs.Network.{DeclaredNetwork}
use Rattle.ats_certificate.specs.PortSums.{is_used}
use Rattle.ats_certificate.specs.Used.{stream_classes, place, places_at, places_from}
use Rattle.ats_tally.specs.Reason.{first_some}
use Rattle.ats_tally.specs.declared.reason.Reason.{Reason}
use Rattle.ats_tally.proofs.Firsts.{first_append}
use Rattle.ats_tally.proofs.Lists.{any_gives}
use Rattle.ats_admission_law.specs.Laws.{PathFindsFirst}
use Rattle.ats_admission_law.specs.Lowest.{found_at, lower_of, lowest_found, at_port_of}

-- one search by port, from a number on
abbrev search_from : (ℕ → Option Reason) → ℕ → List Port → Option Reason
search_from g k [] = None
search_from g k (one ∷ ports) = option_or (g k) (search_from g (k + 1) ports)

-- where a list's elements are told by a number that is the same for each, a test of it keeps all or none
filter_same : (test : ℕ → Bool) (k : ℕ) (classes : List ℕ)
    → filter (λ (at : ℕ × ℕ). test at.0) (map (place k) classes) ≡ cond (test k) (map (place k) classes) []
filter_same test k [] = by (test k) []
  where
    by : (b : Bool) (none : List (ℕ × ℕ)) → none ≡ cond b none none
    by true none = refl
    by false none = refl
filter_same test k (class ∷ classes) = by (test k) (filter_same test k classes)
  where
    by : (b : Bool) → filter (λ (at : ℕ × ℕ). test at.0) (map (place k) classes)
        ≡ cond b (map (place k) classes) []
        → cond b ((k, class) ∷ filter (λ (at : ℕ × ℕ). test at.0) (map (place k) classes))
        (filter (λ (at : ℕ × ℕ). test at.0) (map (place k) classes)) ≡ cond b ((k, class) ∷ map (place k) classes) []
    by true h = ap (λ (t : List (ℕ × ℕ)). (k, class) ∷ t) h
    by false h = h

module _ (given : ℕ × ℕ → Option Reason) (network : DeclaredNetwork) (path : List ℕ) where
  -- a port is one of the path's
  abbrev on : ℕ → Bool
  on port = list_any (λ p. eqb p port) path

  -- what is found at a port, where it is one of the path's
  abbrev there : ℕ → Option Reason
  there port = cond (on port) (found_at given network port) None

  -- the search over all places of the path's ports goes from port to port
  by_port : (k : ℕ) (ports : List Port)
      → first_some given (filter (at_port_of path) (places_from network k ports)) ≡ search_from there k ports
  by_port k [] = refl
  by_port k (one ∷ ports) =
      ap (first_some given) (filter-append (at_port_of path) (places_at network k) (places_from network (k + 1) ports))
      ∙ first_append given (filter (at_port_of path) (places_at network k))
      (filter (at_port_of path) (places_from network (k + 1) ports))
      ∙ ap (λ (o : Option Reason). option_or o
      (first_some given (filter (at_port_of path) (places_from network (k + 1) ports)))) (here (on k)
      (filter_same on k (filter (λ class. is_used network k class) stream_classes)))
      ∙ ap (λ (o : Option Reason). option_or (there k) o) (by_port (k + 1) ports)
    where
      here : (b : Bool) → filter (at_port_of path) (places_at network k) ≡ cond b (places_at network k) []
          → first_some given (filter (at_port_of path) (places_at network k)) ≡ cond b (found_at given network k) None
      here true h = ap (first_some given) h
      here false h = ap (first_some given) h

  -- a search by port that finds nothing at any, and one that finds nothing below a port at which it finds something
  none_by_port : (g : ℕ → Option Reason) (k : ℕ) (ports : List Port) → ((q : ℕ) → g q ≡ None)
      → search_from g k ports ≡ None
  none_by_port g k [] none = refl
  none_by_port g k (one ∷ ports) none =
      ap (λ (o : Option Reason). option_or o (search_from g (k + 1) ports)) (none k)
      ∙ none_by_port g (k + 1) ports none

  some_by_port : (g : ℕ → Option Reason) (k : ℕ) (ports : List Port) (q : ℕ) (reason : Reason) → k ≤ q
      → q < k + length ports → ((r : ℕ) → r < q → g r ≡ None) → g q ≡ Some reason
      → search_from g k ports ≡ Some reason
  some_by_port g k [] q reason from below none some = absurd (omega arith)
  some_by_port g k (one ∷ ports) q reason from below none some =
      elim (cases_eq k q) as (λ _. search_from g k (one ∷ ports) ≡ Some reason) [
        | inl same ↦ ap (λ (o : Option Reason). option_or o (search_from g (k + 1) ports)) (ap g same ∙ some)
        | inr other ↦ ap (λ (o : Option Reason). option_or o (search_from g (k + 1) ports)) (none k (omega arith))
            ∙ some_by_port g (k + 1) ports q reason (omega arith) (omega arith) none some
      ]

-- what was found so far along some ports is what is found at the lowest of them at which anything is
pub record IsLowestOf (g : ℕ → Option Reason) (seen : List ℕ) (best : ℕ × Reason) : Type 0 where
  pub inside : list_any (λ p. eqb p best.0) seen ≡ true
  pub is : g best.0 ≡ Some best.1
  pub least : All (λ p. p < best.0 → g p ≡ None) seen

abbrev pub IsBest : (ℕ → Option Reason) → List ℕ → Option (ℕ × Reason) → Type 0
IsBest g seen None = All (λ p. g p ≡ None) seen
IsBest g seen (Some best) = IsLowestOf g seen best

-- what holds of each number of a list holds of one that is in it
pub of_one : (P : ℕ → Type 0) (ns : List ℕ) (n : ℕ) → All P ns → list_any (λ p. eqb p n) ns ≡ true → P n
of_one P ns n all any = any_gives (λ p. eqb p n) (P n) ns
    (λ k d h e. subst P (eqb-true (get_or ns k d) n e) (all k d h)) any

-- a number that is added is in the list, and so are the others
in_last : (seen : List ℕ) (p : ℕ) → list_any (λ q. eqb q p) (seen ++ p ∷ []) ≡ true
in_last seen p = list_any-append (λ q. eqb q p) seen (p ∷ [])
    ∙ or_right (list_any (λ q. eqb q p) seen) (eqb p p || false) (or_left (eqb p p) false (eq-eqb p p refl))

in_first : (seen : List ℕ) (p n : ℕ) → list_any (λ q. eqb q n) seen ≡ true
    → list_any (λ q. eqb q n) (seen ++ p ∷ []) ≡ true
in_first seen p n any = list_any-append (λ q. eqb q n) seen (p ∷ [])
    ∙ or_left (list_any (λ q. eqb q n) seen) (eqb p n || false) any

module _ (g : ℕ → Option Reason) (seen : List ℕ) (p : ℕ) where
  -- one port more at which something is found, where it is lower than all at which something was
  new_best : (reason : Reason) → g p ≡ Some reason → All (λ q. q < p → g q ≡ None) seen
      → IsLowestOf g (seen ++ p ∷ []) (p, reason)
  new_best reason some below = record {
    inside = in_last seen p;
    is = some;
    least = All-push (λ q. q < p → g q ≡ None) seen p below (λ h. absurd (omega arith));
  }

  -- or else the best stays
  old_best : (best : ℕ × Reason) → IsLowestOf g seen best → (p < best.0 → g p ≡ None)
      → IsLowestOf g (seen ++ p ∷ []) best
  old_best best old here = record {
    inside = in_first seen p best.0 old.inside;
    is = old.is;
    least = All-push (λ q. q < best.0 → g q ≡ None) seen p old.least here;
  }

  next_best : (best : Option (ℕ × Reason)) (o : Option Reason) → g p ≡ o → IsBest g seen best
      → IsBest g (seen ++ p ∷ []) (lower_of best p o)
  next_best None None e old = All-push (λ q. g q ≡ None) seen p old e
  next_best (Some best) None e old = old_best best old (λ h. e)
  next_best None (Some reason) e old =
      new_best reason e (All-weaker (λ q. g q ≡ None) (λ q. q < p → g q ≡ None) (λ q none h. none) seen old)
  next_best (Some best) (Some reason) e old = by (nat_lt p best.0) refl
    where
      by : (b : Bool) → nat_lt p best.0 ≡ b → IsBest g (seen ++ p ∷ []) (cond b (Some (p, reason)) (Some best))
      by true lower =
          let less = ltb-true p best.0 lower in
          new_best reason e (All-weaker (λ q. q < best.0 → g q ≡ None) (λ q. q < p → g q ≡ None)
          (λ q none h. none (omega (arith, h, less))) seen old.least)
      by false not_lower =
          let most = ltb-false p best.0 not_lower in
          old_best best old (λ h. absurd (omega (arith, h, most)))

-- so it is along a path
pub best_along : (g : ℕ → Option Reason) (best : Option (ℕ × Reason)) (seen path : List ℕ) → IsBest g seen best
    → IsBest g (seen ++ path) (fold (λ b port. lower_of b port (g port)) best path)
best_along g best seen [] old = subst (λ (ps : List ℕ). IsBest g ps best) (sym (append-nil seen)) old
best_along g best seen (p ∷ path) old =
    subst (λ (ps : List ℕ). IsBest g ps (fold (λ b port. lower_of b port (g port)) (lower_of best p (g p)) path))
    (append_assoc seen (p ∷ []) path)
    (best_along g (lower_of best p (g p)) (seen ++ p ∷ []) path (next_best g seen p best (g p) refl old))

module _ (given : ℕ × ℕ → Option Reason) (network : DeclaredNetwork) (path : List ℕ) where
  abbrev here : ℕ → Option Reason
  here port = found_at given network port

  -- a port at which nothing is found, if it is one of the path's
  quiet : (q : ℕ) → (on given network path q ≡ true → here q ≡ None) → there given network path q ≡ None
  quiet q none = by (on given network path q) none
    where
      by : (b : Bool) → (b ≡ true → here q ≡ None) → cond b (here q) None ≡ None
      by true none = none refl
      by false none = refl

  found_is_first : All (λ port. port < length network.topology.ports) path → (best : Option (ℕ × Reason))
      → IsBest here path best
      → search_from (there given network path) 0 network.topology.ports ≡ option_map (λ b. b.1) best
  found_is_first inside None all =
      none_by_port given network path (there given network path) 0 network.topology.ports
      (λ q. quiet q (λ any. of_one (λ p. here p ≡ None) path q all any))
  found_is_first inside (Some best) is =
      let ports : List Port = network.topology.ports in
      let within : best.0 < length ports = of_one (λ p. p < length ports) path best.0 inside is.inside in
      some_by_port given network path (there given network path) 0 ports best.0 best.1 (omega arith)
      (omega (arith, within))
      (λ r less. quiet r (λ any. of_one (λ p. p < best.0 → here p ≡ None) path r is.least any less))
      (ap (λ (b : Bool). cond b (here best.0) None) is.inside ∙ is.is)

pub path_finds_first : PathFindsFirst
path_finds_first given network path inside =
    by_port given network path 0 network.topology.ports
    ∙ found_is_first given network path inside (lowest_found given network path)
    (best_along (λ port. found_at given network port) None [] path (All-nil (λ p. found_at given network p ≡ None)))
