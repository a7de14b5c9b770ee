-- The late routes that are looked at, port by port along a path.
use Rattle.std.proofs.Common.{◌≡◌, ℕ, ◌+◌, ◌<◌, ◌≤◌, true, false, List, [], length, get_or, take}
use Rattle.std.proofs.Common.{Option, None, Some, refl, sym, ap, ◌∙◌, ◌⊎◌, inl, inr, eqb, arith}
use Rattle.std.specs.List.{list_any}
use Rattle.std.specs.Option.{ForSome}
use Rattle.std.proofs.lemmas.Bool.{eq-eqb, eqb-true, lt-ltb, ltb-true, or_cases, true≢false}
use Rattle.std.proofs.lemmas.List.{length-map, take_all}
use Rattle.std.proofs.lemmas.List.Folds.{list_any_at, list_any_more, list_any_none}
use Rattle.std.proofs.lemmas.Option.{none-some}
use Rattle.ats_class_table.specs.Table.{Table}
use Rattle.ats_tally.proofs.Lists.{any_gives}
use Rattle.ats_admission_users.specs.Users.{has_port, users_of}
use Rattle.ats_admission_state.specs.Judging.{FindsFirstLate, IsLateRoute, LooksAt, is_below, meets}
use Rattle.ats_admission_state.specs.Routes.{RouteState, is_late, no_route, ports_along, route_paths}
use Rattle.ats_admission_state.proofs.Hops.{path_of}
use Rattle.ats_admission_state.proofs.Users.{is_listed, listed_split}

-- no route has a port of the empty path
meets_none : (route : RouteState) → meets [] route ≡ false
meets_none route = list_any_none (λ port. has_port port []) (ports_along route) (λ k d h. refl)

-- a route that has one of the ports up to a hop has one before it, or the port there
meets_more : (path : List ℕ) (hop port : ℕ) (route : RouteState) → hop < length path → port ≡ get_or path hop 0
    → meets (take (hop + 1) path) route ≡ true
    → (meets (take hop path) route ≡ true) ⊎ (has_port port (ports_along route) ≡ true)
meets_more path hop port route within at met =
    any_gives (λ p. has_port p (take (hop + 1) path))
    ((meets (take hop path) route ≡ true) ⊎ (has_port port (ports_along route) ≡ true)) (ports_along route)
    (λ k d h e. by k d h (or_cases (has_port (get_or (ports_along route) k d) (take hop path))
    (eqb (get_or path hop 0) (get_or (ports_along route) k d))
    (sym (list_any_more (λ q. eqb q (get_or (ports_along route) k d)) path hop 0 within) ∙ e))) met
  where
    by : (k d : ℕ) → k < length (ports_along route)
        → (has_port (get_or (ports_along route) k d) (take hop path) ≡ true)
        ⊎ (eqb (get_or path hop 0) (get_or (ports_along route) k d) ≡ true)
        → (meets (take hop path) route ≡ true) ⊎ (has_port port (ports_along route) ≡ true)
    by k d h (inl before) = inl (list_any_at (λ p. has_port p (take hop path)) (ports_along route) k d h before)
    by k d h (inr here) =
        inr (list_any_at (λ p. eqb p port) (ports_along route) k d h
        (eq-eqb (get_or (ports_along route) k d) port
        (sym (at ∙ eqb-true (get_or path hop 0) (get_or (ports_along route) k d) here))))

-- a number that is no greater than one below what was found is below it
below_less : (m n : ℕ) (found : Option ℕ) → m ≤ n → is_below n found ≡ true → is_below m found ≡ true
below_less m n None less below = refl
below_less m n (Some found) less below = lt-ltb m found (omega (arith, less, ltb-true n found below))

module _ (bounds : Table ℕ) (routes : List RouteState) where
  abbrev route : ℕ → RouteState
  route n = get_or routes n no_route

  -- at no port none is found
  pub first_none : (path : List ℕ) → FindsFirstLate bounds routes (take 0 path) None
  first_none path = record {
    late = λ n some. absurd (none-some n some);
    none_before = λ n within below met. absurd (true≢false (sym met ∙ meets_none (route n)));
  }

  -- a late route was found; none before it is late of those that have a port of a path, and of the first users of one
  pub record IsLooked (path users : List ℕ) (rank : ℕ) (found : Option ℕ) : Type 0 where
    pub late : ForSome found (IsLateRoute bounds routes)
    pub none_before : (n : ℕ) → n < length routes → is_below n found ≡ true
        → (meets path (route n) ≡ true) ⊎ (list_any (λ q. eqb q n) (take rank users) ≡ true)
        → is_late bounds (route n) ≡ false

  pub looked_none : (path users : List ℕ) (found : Option ℕ) → FindsFirstLate bounds routes path found
      → IsLooked path users 0 found
  looked_none path users found first = record {
    late = first.late;
    none_before = λ n within below. by n within below;
  }
    where
      by : (n : ℕ) → n < length routes → is_below n found ≡ true
          → (meets path (route n) ≡ true) ⊎ (list_any (λ q. eqb q n) (take 0 users) ≡ true)
          → is_late bounds (route n) ≡ false
      by n within below (inl met) = first.none_before n within below met
      by n within below (inr listed) = absurd (true≢false (sym listed))

  -- one of the first users with the next is one of them, or the next
  next_user : (users : List ℕ) (rank n : ℕ) → rank < length users
      → list_any (λ q. eqb q n) (take (rank + 1) users) ≡ true
      → (list_any (λ q. eqb q n) (take rank users) ≡ true) ⊎ (get_or users rank 0 ≡ n)
  next_user users rank n within listed =
      by (or_cases (list_any (λ q. eqb q n) (take rank users)) (eqb (get_or users rank 0) n)
      (sym (list_any_more (λ q. eqb q n) users rank 0 within) ∙ listed))
    where
      by : (list_any (λ q. eqb q n) (take rank users) ≡ true) ⊎ (eqb (get_or users rank 0) n ≡ true)
          → (list_any (λ q. eqb q n) (take rank users) ≡ true) ⊎ (get_or users rank 0 ≡ n)
      by (inl before) = inl before
      by (inr here) = inr (eqb-true (get_or users rank 0) n here)

  -- the next user is looked at
  pub looked_at : (path users : List ℕ) (rank number : ℕ) (found more : Option ℕ) → rank < length users
      → number ≡ get_or users rank 0 → LooksAt bounds routes number found more → IsLooked path users rank found
      → IsLooked path users (rank + 1) more
  looked_at path users rank number found more within is looks before = record {
    late = looks.late before.late;
    none_before = λ n inside below. by n inside below;
  }
    where
      next : (n : ℕ) → n < length routes → is_below n more ≡ true
          → (list_any (λ q. eqb q n) (take rank users) ≡ true) ⊎ (get_or users rank 0 ≡ n)
          → is_late bounds (route n) ≡ false
      next n inside below (inl listed) = before.none_before n inside (looks.below n below) (inr listed)
      next n inside below (inr same) =
          ap (λ (k : ℕ). is_late bounds (route k)) (sym (is ∙ same))
          ∙ looks.own (ap (λ (k : ℕ). is_below k more) (is ∙ same) ∙ below)

      by : (n : ℕ) → n < length routes → is_below n more ≡ true
          → (meets path (route n) ≡ true) ⊎ (list_any (λ q. eqb q n) (take (rank + 1) users) ≡ true)
          → is_late bounds (route n) ≡ false
      by n inside below (inl on) = before.none_before n inside (looks.below n below) (inl on)
      by n inside below (inr listed) = next n inside below (next_user users rank n within listed)

  -- where all users of a port were looked at, all routes were that have it
  pub looked_all : (path : List ℕ) (hop port rank : ℕ) (found : Option ℕ) → hop < length path
      → port ≡ get_or path hop 0 → length (users_of (route_paths routes) port) ≤ rank
      → IsLooked (take hop path) (users_of (route_paths routes) port) rank found
      → FindsFirstLate bounds routes (take (hop + 1) path) found
  looked_all path hop port rank found within at all looked = record {
    late = looked.late;
    none_before = λ n inside below met. looked.none_before n inside below
        (by n inside (meets_more path hop port (route n) within at met));
  }
    where
      users : List ℕ
      users = users_of (route_paths routes) port

      by : (n : ℕ) → n < length routes
          → (meets (take hop path) (route n) ≡ true) ⊎ (has_port port (ports_along (route n)) ≡ true)
          → (meets (take hop path) (route n) ≡ true) ⊎ (list_any (λ q. eqb q n) (take rank users) ≡ true)
      by n inside (inl met) = inl met
      by n inside (inr has) =
          inr (ap (λ (l : List ℕ). list_any (λ q. eqb q n) l) (take_all rank users all)
          ∙ is_listed port (route_paths routes) n (record {
            within = omega (arith, inside, length-map routes ports_along);
            has = ap (has_port port) (path_of routes n inside) ∙ has;
          }))

  -- where a user of a port is not below what was found, nor are those behind it, and all were looked at
  pub looked_rest : (path : List ℕ) (hop port rank number : ℕ) (found : Option ℕ) → hop < length path
      → port ≡ get_or path hop 0 → number ≡ get_or (users_of (route_paths routes) port) rank 0
      → is_below number found ≡ false
      → IsLooked (take hop path) (users_of (route_paths routes) port) rank found
      → FindsFirstLate bounds routes (take (hop + 1) path) found
  looked_rest path hop port rank number found within at is above looked =
      looked_all path hop port (length users) found within at (omega arith) (record {
        late = looked.late;
        none_before = λ n inside below. by n inside below;
      })
    where
      users : List ℕ
      users = users_of (route_paths routes) port

      among : (n : ℕ) → n < length routes → is_below n found ≡ true
          → (list_any (λ q. eqb q n) (take rank users) ≡ true) ⊎ (get_or users rank 0 ≤ n)
          → is_late bounds (route n) ≡ false
      among n inside below (inl before) = looked.none_before n inside below (inr before)
      among n inside below (inr behind) =
          absurd (true≢false (sym (below_less number n found (omega (arith, is, behind)) below) ∙ above))

      by : (n : ℕ) → n < length routes → is_below n found ≡ true
          → (meets (take hop path) (route n) ≡ true) ⊎ (list_any (λ q. eqb q n) (take (length users) users) ≡ true)
          → is_late bounds (route n) ≡ false
      by n inside below (inl met) = looked.none_before n inside below (inl met)
      by n inside below (inr listed) =
          among n inside below (listed_split port 0 (route_paths routes) rank n
          (sym (ap (λ (l : List ℕ). list_any (λ q. eqb q n) l) (take_all (length users) users (omega arith))) ∙ listed))
