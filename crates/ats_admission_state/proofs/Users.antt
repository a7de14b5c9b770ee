-- The numbers of the paths that have a port.
use Rattle.std.proofs.Common.{◌≡◌, ℕ, zero, suc, ◌+◌, ◌-◌, ◌<◌, ◌≤◌, Bool, true, false, cond, List, [], ◌∷◌, length}
use Rattle.std.proofs.Common.{get_or, take, sym, ap, ◌∙◌, ◌⊎◌, inl, inr, eqb, arith}
use Rattle.std.specs.List.{All, list_any}
use Rattle.std.proofs.lemmas.Bool.{eq-eqb, eqb-true, or_cases, or_left, or_right, true≢false}
use Rattle.std.proofs.lemmas.List.Elements.{All-weaker}
use Rattle.ats_tally.proofs.Lists.{any_gives}
use Rattle.ats_admission_users.proofs.UserLemmas as lists
use Rattle.ats_admission_users.specs.Users.{has_port, users_from, users_of}

-- the number is that of a path that has the port
pub record IsUser (port : ℕ) (paths : List (List ℕ)) (m : ℕ) : Type 0 where
  pub within : m < length paths
  pub has : has_port port (get_or paths m []) ≡ true

module _ (port : ℕ) where
  -- each number that is listed is that of such a path
  pub all_users : (paths : List (List ℕ)) → All (IsUser port paths) (users_of paths port)
  all_users paths = All-weaker (lists.IsUser 0 port paths) (IsUser port paths)
      (λ m u. (
      let same : m ≡ m - 0 = omega arith in
      record {
        within = omega (arith, u.within);
        has = ap (λ (k : ℕ). has_port port (get_or paths k [])) same ∙ u.has;
      })) (users_of paths port) (lists.users_have 0 port paths)

  listed_from : (n : ℕ) (paths : List (List ℕ)) (k : ℕ) → k < length paths → has_port port (get_or paths k []) ≡ true
      → list_any (λ q. eqb q (n + k)) (users_from n port paths) ≡ true
  listed_from n [] k within has = absurd (omega arith)
  listed_from n (path ∷ paths) zero within has =
      let rest : List ℕ = users_from (n + 1) port paths in
      ap (λ (b : Bool). list_any (λ q. eqb q (n + 0)) (cond b (n ∷ rest) rest)) has
      ∙ or_left (eqb n (n + 0)) (list_any (λ q. eqb q (n + 0)) rest) (eq-eqb n (n + 0) (omega arith))
  listed_from n (path ∷ paths) (suc k) within has =
      by (has_port port path)
      (let same : n + suc k ≡ n + 1 + k = omega arith in
      ap (λ (m : ℕ). list_any (λ q. eqb q m) rest) same ∙ listed_from (n + 1) paths k (omega arith) has)
    where
      rest : List ℕ
      rest = users_from (n + 1) port paths

      by : (b : Bool) → list_any (λ q. eqb q (n + suc k)) rest ≡ true
          → list_any (λ q. eqb q (n + suc k)) (cond b (n ∷ rest) rest) ≡ true
      by true later = or_right (eqb n (n + suc k)) (list_any (λ q. eqb q (n + suc k)) rest) later
      by false later = later

  -- and each such path is listed
  pub is_listed : (paths : List (List ℕ)) (m : ℕ) → IsUser port paths m
      → list_any (λ q. eqb q m) (users_of paths port) ≡ true
  is_listed paths m u =
      let same : m ≡ 0 + m = omega arith in
      ap (λ (n : ℕ). list_any (λ q. eqb q n) (users_of paths port)) same ∙ listed_from 0 paths m u.within u.has

  -- a number that is listed is no less than the first
  from_first : (n : ℕ) (paths : List (List ℕ)) (m : ℕ) → list_any (λ q. eqb q m) (users_from n port paths) ≡ true
      → n ≤ m
  from_first n paths m listed =
      any_gives (λ q. eqb q m) (n ≤ m) (users_from n port paths)
      (λ k d h e. omega (
        arith,
        (lists.users_have n port paths k d h).from,
        eqb-true (get_or (users_from n port paths) k d) m e,
      )) listed

  -- the numbers that are listed ascend: one is among those before a place, or no less than that at the place
  pub listed_split : (n : ℕ) (paths : List (List ℕ)) (rank m : ℕ)
      → list_any (λ q. eqb q m) (users_from n port paths) ≡ true
      → (list_any (λ q. eqb q m) (take rank (users_from n port paths)) ≡ true)
      ⊎ (get_or (users_from n port paths) rank 0 ≤ m)
  listed_split n [] rank m listed = absurd (true≢false (sym listed))
  listed_split n (path ∷ paths) rank m listed =
      by (has_port port path) rank (λ at. listed_split (n + 1) paths at m) listed
    where
      rest : List ℕ
      rest = users_from (n + 1) port paths

      Split : List ℕ → ℕ → Type 0
      Split users at = (list_any (λ q. eqb q m) (take at users) ≡ true) ⊎ (get_or users at 0 ≤ m)

      next : (at : ℕ) → Split rest at → Split (n ∷ rest) (suc at)
      next at (inl before) = inl (or_right (eqb n m) (list_any (λ q. eqb q m) (take at rest)) before)
      next at (inr below) = inr below

      first : (at : ℕ) → ((k : ℕ) → list_any (λ q. eqb q m) rest ≡ true → Split rest k)
          → (eqb n m ≡ true) ⊎ (list_any (λ q. eqb q m) rest ≡ true) → Split (n ∷ rest) at
      first zero splits (inl here) = inr (omega (arith, eqb-true n m here))
      first zero splits (inr later) = inr (omega (arith, from_first (n + 1) paths m later))
      first (suc at) splits (inl here) = inl (or_left (eqb n m) (list_any (λ q. eqb q m) (take at rest)) here)
      first (suc at) splits (inr later) = next at (splits at later)

      by : (b : Bool) (at : ℕ) → ((k : ℕ) → list_any (λ q. eqb q m) rest ≡ true → Split rest k)
          → list_any (λ q. eqb q m) (cond b (n ∷ rest) rest) ≡ true → Split (cond b (n ∷ rest) rest) at
      by true at splits there = first at splits (or_cases (eqb n m) (list_any (λ q. eqb q m) rest) there)
      by false at splits there = splits at there
