-- The numbers of the paths that have a port.
use Rattle.std.proofs.Common.{◌≡◌, ℕ, suc, ◌+◌, ◌-◌, ◌<◌, ◌≤◌, Bool, true, false, cond, List, [], ◌∷◌, length, map}
use Rattle.std.proofs.Common.{get_or, refl, ap, ◌∙◌, arith}
use Rattle.std.specs.List.{All}
use Rattle.std.proofs.lemmas.List.Elements.{All-nil, All-cons, All-weaker}
use Rattle.ats_admission_users.specs.Users.{has_port, users_from, users_of}

-- two functions that agree give the same images
pub map_agree : {X Y : Type 0} (f g : X → Y) (agree : (x : X) → f x ≡ g x) (xs : List X) → map f xs ≡ map g xs
map_agree f g agree [] = refl
map_agree {X} {Y} f g agree (x ∷ xs) =
    ap (λ (y : Y). y ∷ map f xs) (agree x) ∙ ap (λ (ys : List Y). g x ∷ ys) (map_agree f g agree xs)

-- numbers that begin at one more are each one more
pub users_from-later : (n port : ℕ) (paths : List (List ℕ))
    → users_from (n + 1) port paths ≡ map (λ m. suc m) (users_from n port paths)
users_from-later n port [] = refl
users_from-later n port (path ∷ paths) = by (has_port port path) (users_from-later (n + 1) port paths)
  where
    one : n + 1 ≡ suc n
    one = omega arith

    by : (b : Bool) → users_from ((n + 1) + 1) port paths ≡ map (λ m. suc m) (users_from (n + 1) port paths)
        → cond b ((n + 1) ∷ users_from ((n + 1) + 1) port paths) (users_from ((n + 1) + 1) port paths)
        ≡ map (λ m. suc m) (cond b (n ∷ users_from (n + 1) port paths) (users_from (n + 1) port paths))
    by true h = ap (λ (m : ℕ). m ∷ users_from ((n + 1) + 1) port paths) one ∙ ap (λ (ms : List ℕ). suc n ∷ ms) h
    by false h = h

-- each of the numbers is that of a path that has the port
pub record IsUser (n port : ℕ) (paths : List (List ℕ)) (number : ℕ) : Type 0 where
  pub from : n ≤ number
  pub within : number < n + length paths
  pub has : has_port port (get_or paths (number - n) []) ≡ true

pub users_have : (n port : ℕ) (paths : List (List ℕ)) → All (IsUser n port paths) (users_from n port paths)
users_have n port [] = All-nil (IsUser n port [])
users_have n port (path ∷ paths) =
    by (has_port port path) refl
    (All-weaker (IsUser (n + 1) port paths) (IsUser n port (path ∷ paths)) later (users_from (n + 1) port paths)
    (users_have (n + 1) port paths))
  where
    later : (number : ℕ) → IsUser (n + 1) port paths number → IsUser n port (path ∷ paths) number
    later number is =
        let next : number - n ≡ suc (number - (n + 1)) = omega (arith, is.from) in
        record {
          from = omega (arith, is.from);
          within = omega (arith, is.within);
          has = ap (λ (k : ℕ). has_port port (get_or (path ∷ paths) k [])) next ∙ is.has;
        }

    by : (b : Bool) → has_port port path ≡ b → All (IsUser n port (path ∷ paths)) (users_from (n + 1) port paths)
        → All (IsUser n port (path ∷ paths))
        (cond b (n ∷ users_from (n + 1) port paths) (users_from (n + 1) port paths))
    by true e h = All-cons (IsUser n port (path ∷ paths)) n (users_from (n + 1) port paths) first h
      where
        first : IsUser n port (path ∷ paths) n
        first =
            let none : n - n ≡ 0 = omega arith in
            record {
              from = omega arith;
              within = omega arith;
              has = ap (λ (k : ℕ). has_port port (get_or (path ∷ paths) k [])) none ∙ e;
            }
    by false e h = h

pub users_within : (port : ℕ) (paths : List (List ℕ)) → All (λ number. number < length paths) (users_of paths port)
users_within port paths =
    All-weaker (IsUser 0 port paths) (λ number. number < length paths) (λ number is. omega (arith, is.within))
    (users_of paths port) (users_have 0 port paths)
