-- The streams near the last one, and the routes of the streams without it.
use Rattle.std.proofs.Common.{◌≡◌, ℕ, ◌+◌, ◌<◌, ◌≤◌, true, false, List, []}
use Rattle.std.proofs.Common.{◌∷◌, ◌++◌, length, get_or}
use Rattle.std.proofs.Common.{refl, sym, ap, subst, ◌∙◌, eqb, inl, inr, arith}
use Rattle.std.specs.Prelude.{◌||◌}
use Rattle.std.specs.List.{All, list_any}
use Rattle.std.proofs.lemmas.Bool.{cases_eq, or_left, or_right, eq-eqb}
use Rattle.std.proofs.lemmas.List.{get_or-map, get_or_default, length-map}
use Rattle.std.proofs.lemmas.List.Elements.{All-append, All-cons, All-nil, All-weaker}
use Rattle.std.proofs.lemmas.List.Folds.{list_any-append}
use Rattle.ats_facts.proofs.Lists.{all_left}
use Rattle.ats_streams.specs.Stream.{DeclaredStream, IsStream}
use Rattle.ats_network.specs.Edits.{no_stream}
use Rattle.ats_network.specs.Network.{DeclaredNetwork, IsNetwork}
use Rattle.ats_admission_law.specs.Near.{AreNear, IsNear}
use Rattle.ats_admission_shares.specs.PortShares.{stream_at, stream_paths, without_at}
use Rattle.ats_admission_state.specs.Routes.{RouteState, no_route, route_of, route_paths}
use Rattle.ats_admission_state.specs.Routes.{routes_of}
use Rattle.ats_admission_state.proofs.Last.{other_at, others-length, some_hop, streams_are}
use Rattle.ats_admission_state.proofs.Near.{IsNearPath, along, are_near, near_listed}
use Rattle.ats_admission_state.proofs.Bounds.{all_route_paths}

module _ (network : DeclaredNetwork) (n : ℕ) (last : n + 1 ≡ length network.streams) (rules : IsNetwork network) where
  abbrev pub x : DeclaredStream
  x = stream_at network n

  abbrev pub less : DeclaredNetwork
  less = without_at network n

  abbrev pub routes : List RouteState
  routes = routes_of (without_at network n)

  abbrev pub paths : List (List ℕ)
  paths = stream_paths (without_at network n)

  -- the paths of the other streams' routes are theirs
  pub paths_of_routes : route_paths routes ≡ paths
  paths_of_routes =
      all_route_paths less.streams
      (all_left IsStream less.streams (x ∷ []) (subst (All IsStream) (streams_are network n last) rules.streams))

  within_of : (m : ℕ) → m < length paths → m < n
  within_of m within =
      omega (arith, within, length-map less.streams (λ (s : DeclaredStream). s.ports), others-length network n last)

  path_is : (m : ℕ) → m < n → get_or paths m [] ≡ (stream_at network m).ports
  path_is m within =
      get_or-map (λ (s : DeclaredStream). s.ports) less.streams m no_stream []
      (omega (arith, within, others-length network n last))
      ∙ ap (λ (s : DeclaredStream). s.ports) (sym (other_at network n last m within))

  -- the route with a number is that of the stream
  pub route_is : (m : ℕ) → m < n → get_or routes m no_route ≡ route_of (stream_at network m)
  route_is m within =
      get_or-map route_of less.streams m no_stream no_route
      (omega (arith, within, others-length network n last))
      ∙ ap route_of (sym (other_at network n last m within))

  pub routes-length : length routes ≡ n
  routes-length = length-map less.streams route_of ∙ others-length network n last

  -- what holds of the routes of the network's streams holds of each
  pub each_route : (P : RouteState → Type 0)
      → ((m : ℕ) → m < length network.streams → P (route_of (stream_at network m)))
      → All P routes
  each_route P each k d h =
      let within : k < n = omega (arith, h, routes-length) in
      subst P (sym (get_or_default routes k d no_route h ∙ route_is k within)) (each k (omega (arith, within, last)))

  abbrev pub numbers : List ℕ
  numbers = along paths x.ports

  pub all_lower : All (λ m. m < n) numbers
  all_lower = All-weaker (IsNearPath x.ports paths) (λ m. m < n) (λ m near. within_of m near.within) numbers
      (are_near paths x.ports)

  -- a stream of a path near it is near it
  is_near : (m : ℕ) → IsNearPath x.ports paths m → IsNear network x m
  is_near m near =
      let within : m < n = within_of m near.within in
      record {
        within = omega (arith, within, last);
        shares = sym (ap (λ (path : List ℕ). list_any (λ port. list_any (λ p. eqb p port) x.ports) path)
            (path_is m within)) ∙ near.shares;
      }

  own_shares : (path : List ℕ) → 1 ≤ length path → list_any (λ port. list_any (λ p. eqb p port) path) path ≡ true
  own_shares [] some = absurd (omega arith)
  own_shares (port ∷ path) some =
      or_left (list_any (λ p. eqb p port) (port ∷ path))
      (list_any (λ q. list_any (λ p. eqb p q) (port ∷ path)) path)
      (or_left (eqb port port) (list_any (λ p. eqb p port) path) (eq-eqb port port refl))

  own_near : IsNear network x n
  own_near = record {
    within = omega (arith, last);
    shares = own_shares x.ports (some_hop network n rules (omega (arith, last)));
  }

  pub in_numbers : (m : ℕ) → m < n → IsNear network x m → list_any (λ q. eqb q m) numbers ≡ true
  in_numbers m within near =
      near_listed paths x.ports m (record {
        within = omega (
          arith,
          within,
          length-map less.streams (λ (s : DeclaredStream). s.ports),
          others-length network n last,
        );
        shares = ap (λ (path : List ℕ). list_any (λ port. list_any (λ p. eqb p port) x.ports) path) (path_is m within)
            ∙ near.shares;
      })

  listed_here : (m : ℕ) → IsNear network x m → list_any (λ q. eqb q m) (numbers ++ n ∷ []) ≡ true
  listed_here m near =
      list_any-append (λ q. eqb q m) numbers (n ∷ [])
      ∙ (elim (cases_eq n m) as (λ _.
      (list_any (λ q. eqb q m) numbers || list_any (λ q. eqb q m) (n ∷ [])) ≡ true) [
        | inl same ↦ or_right (list_any (λ q. eqb q m) numbers) (list_any (λ q. eqb q m) (n ∷ []))
            (or_left (eqb n m) false (eq-eqb n m same))
        | inr other ↦
            (let within : m < n = let inside = near.within in omega (arith, inside, last, other) in
            or_left (list_any (λ q. eqb q m) numbers) (list_any (λ q. eqb q m) (n ∷ []))
            (in_numbers m within near))
      ])

  -- the numbers are of streams near it
  pub all_near : All (IsNear network x) numbers
  all_near = All-weaker (IsNearPath x.ports paths) (IsNear network x) is_near numbers (are_near paths x.ports)

  pub near_are : AreNear network x (numbers ++ n ∷ [])
  near_are = record {
    near = All-append (IsNear network x) numbers (n ∷ []) all_near
        (All-cons (IsNear network x) n [] own_near (All-nil (IsNear network x)));
    complete = listed_here;
  }
