-- The paths that have a port of a path.
use Rattle.std.proofs.Common.{◌≡◌, ℕ, ◌<◌, true, false, List, [], ◌∷◌, ◌++◌, length, get_or, refl, ap, ◌∙◌}
use Rattle.std.proofs.Common.{inl, inr, eqb}
use Rattle.std.specs.Prelude.{◌||◌}
use Rattle.std.specs.List.{All, list_any}
use Rattle.std.proofs.lemmas.Bool.{eq-eqb, eqb-true, or_cases, or_left, or_right}
use Rattle.std.proofs.lemmas.List.Elements.{All-nil, All-append, All-head, All-tail, All-weaker}
use Rattle.std.proofs.lemmas.List.Folds.{list_any-append, list_any_at}
use Rattle.ats_tally.proofs.Lists.{any_gives}
use Rattle.ats_admission_users.specs.Users.{has_port, users_of}
use Rattle.ats_admission_state.proofs.Users.{IsUser, all_users, is_listed}

-- the numbers of the paths that have a port of this path, port by port
abbrev pub along : List (List ℕ) → List ℕ → List ℕ
along paths [] = []
along paths (port ∷ path) = users_of paths port ++ along paths path

-- each port of a path is one of the path's
pub on_own : (path : List ℕ) → All (λ port. has_port port path ≡ true) path
on_own path k d h =
    list_any_at (λ p. eqb p (get_or path k d)) path k d h (eq-eqb (get_or path k d) (get_or path k d) refl)

-- a port that two paths have is one of the first's on the second
both_have : (port : ℕ) (first second : List ℕ) → has_port port first ≡ true → has_port port second ≡ true
    → list_any (λ p. has_port p first) second ≡ true
both_have port first second one other =
    any_gives (λ p. eqb p port) (list_any (λ p. has_port p first) second ≡ true) second
    (λ k d h e. list_any_at (λ p. has_port p first) second k d h
    (ap (λ (p : ℕ). has_port p first) (eqb-true (get_or second k d) port e) ∙ one)) other

-- the number is that of a path that has a port of this path
pub record IsNearPath (path : List ℕ) (paths : List (List ℕ)) (m : ℕ) : Type 0 where
  pub within : m < length paths
  pub shares : list_any (λ port. has_port port path) (get_or paths m []) ≡ true

module _ (paths : List (List ℕ)) (own : List ℕ) where
  user_is_near : (port m : ℕ) → has_port port own ≡ true → IsUser port paths m → IsNearPath own paths m
  user_is_near port m on u =
      record { within = u.within; shares = both_have port own (get_or paths m []) on u.has }

  all_near : (path : List ℕ) → All (λ port. has_port port own ≡ true) path
      → All (IsNearPath own paths) (along paths path)
  all_near [] on = All-nil (IsNearPath own paths)
  all_near (port ∷ path) on =
      All-append (IsNearPath own paths) (users_of paths port) (along paths path)
      (All-weaker (IsUser port paths) (IsNearPath own paths)
      (λ m u. user_is_near port m (All-head (λ p. has_port p own ≡ true) port path on) u)
      (users_of paths port) (all_users port paths))
      (all_near path (All-tail (λ p. has_port p own ≡ true) port path on))

  -- each number along a path is that of a path near it
  pub are_near : All (IsNearPath own paths) (along paths own)
  are_near = all_near own (on_own own)

  -- a path that has a port of one is listed along it
  listed_along : (m : ℕ) → m < length paths → (path : List ℕ) (port : ℕ) → has_port port path ≡ true
      → has_port port (get_or paths m []) ≡ true → list_any (λ q. eqb q m) (along paths path) ≡ true
  listed_along m within [] port on has = absurd (let no : false ≡ true = on in cc)
  listed_along m within (p ∷ path) port on has =
      list_any-append (λ q. eqb q m) (users_of paths p) (along paths path)
      ∙ (elim (or_cases (eqb p port) (has_port port path) on) as (λ _.
      (list_any (λ q. eqb q m) (users_of paths p) || list_any (λ q. eqb q m) (along paths path)) ≡ true) [
        | inl here ↦ or_left (list_any (λ q. eqb q m) (users_of paths p)) (list_any (λ q. eqb q m) (along paths path))
            (is_listed p paths m (record {
              within = within;
              has = ap (λ (n : ℕ). has_port n (get_or paths m [])) (eqb-true p port here) ∙ has;
            }))
        | inr behind ↦
            or_right (list_any (λ q. eqb q m) (users_of paths p)) (list_any (λ q. eqb q m) (along paths path))
            (listed_along m within path port behind has)
      ])

  -- and each such number is there
  pub near_listed : (m : ℕ) → IsNearPath own paths m → list_any (λ q. eqb q m) (along paths own) ≡ true
  near_listed m near =
      any_gives (λ port. has_port port own) (list_any (λ q. eqb q m) (along paths own) ≡ true)
      (get_or paths m [])
      (λ k d h on. listed_along m near.within own (get_or (get_or paths m []) k d) on
      (on_own (get_or paths m []) k d h))
      near.shares
