use Rattle.std.proofs.Common.{◌≡◌, ℕ, zero, suc, ◌+◌, ◌*◌, ◌<◌, ◌≤◌, Bool, true, false, cond, List, [], ◌∷◌, length}
use Rattle.std.proofs.Common.{get_or, take, drop, filter, map, sum_by, All, refl, ap, add-one, arith}
use Rattle.std.specs.Prelude.{◌==◌, nat_lt}
use Rattle.std.proofs.Math.Nat.{mul-le-mul_left}
use Rattle.std.proofs.lemmas.Bool.{cond-true, lt-ltb}
use Rattle.std.proofs.lemmas.Bool.Decides.{nat_tests}
use Rattle.std.proofs.lemmas.List.Elements.{All-head, All-tail}
use Rattle.std.proofs.lemmas.List.Sums.{sum_by-cons, sum_by-le, sum_by-take-drop, sum_by-take-le, sum_by-drop_more}
use Rattle.std.proofs.lemmas.List.Sums.{sum_by_more, sum_by-le-sum_by}

-- a sum of larger terms, where they are larger at the elements of the list
pub sum_by-le-all : {X : Type 0} (f g : X → ℕ) (xs : List X) → All (λ (x : X). f x ≤ g x) xs → sum_by f xs ≤ sum_by g xs
sum_by-le-all f g [] all = omega arith
sum_by-le-all {X} f g (x ∷ xs) all =
    let first = All-head (λ (x : X). f x ≤ g x) x xs all in
    let rest = sum_by-le-all f g xs (All-tail (λ (x : X). f x ≤ g x) x xs all) in
    omega (arith, sum_by-cons f x xs, sum_by-cons g x xs, first, rest)

-- a sum of sums
pub sum_by-both : {X : Type 0} (f g h : X → ℕ) (xs : List X) → ((x : X) → h x ≡ f x + g x)
    → sum_by h xs ≡ sum_by f xs + sum_by g xs
sum_by-both f g h [] each = omega arith
sum_by-both f g h (x ∷ xs) each =
    let rest = sum_by-both f g h xs each in
    omega (arith, sum_by-cons f x xs, sum_by-cons g x xs, sum_by-cons h x xs, each x)

chosen-cons : {X : Type 0} (b : Bool) (f : X → ℕ) (x : X) (xs : List X)
    → sum_by f (cond b (x ∷ xs) xs) ≡ cond b (f x) 0 + sum_by f xs
chosen-cons true f x xs = sum_by-cons f x xs
chosen-cons false f x xs = omega arith

-- a sum over the elements that pass a test is one over all
pub sum_by-filter : {X : Type 0} (f : X → ℕ) (test : X → Bool) (xs : List X)
    → sum_by f (filter test xs) ≡ sum_by (λ (x : X). cond (test x) (f x) 0) xs
sum_by-filter f test [] = refl
sum_by-filter {X} f test (x ∷ xs) =
    let chosen = chosen-cons (test x) f x (filter test xs) in
    let rest = sum_by-filter f test xs in
    let all = sum_by-cons (λ (x : X). cond (test x) (f x) 0) x xs in
    omega (arith, chosen, rest, all)

-- a sum over images is one over what they are images of
pub sum_by-map : {X Y : Type 0} (f : Y → ℕ) (g : X → Y) (xs : List X)
    → sum_by f (map g xs) ≡ sum_by (λ (x : X). f (g x)) xs
sum_by-map f g [] = refl
sum_by-map {X} f g (x ∷ xs) =
    let rest = sum_by-map f g xs in
    omega (arith, sum_by-cons f (g x) (map g xs), sum_by-cons (λ (x : X). f (g x)) x xs, rest)

-- a sum of larger terms, to which an element adds that gave nothing before
pub sum_by-one_more : {X : Type 0} (f g : X → ℕ) (xs : List X) (i : ℕ) (d : X) → i < length xs → ((x : X) → f x ≤ g x)
    → f (get_or xs i d) ≡ 0 → sum_by f xs + g (get_or xs i d) ≤ sum_by g xs
sum_by-one_more f g xs i d h larger none =
    let before = sum_by-le-sum_by f g (take i xs) larger in
    let after = sum_by-le-sum_by f g (drop (i + 1) xs) larger in
    omega (
      arith,
      before,
      after,
      none,
      sum_by-take-drop f xs i,
      sum_by-take-drop g xs i,
      sum_by-drop_more f xs i d h,
      sum_by-drop_more g xs i d h,
    )

-- a sum of nothing
pub sum_by-none : {X : Type 0} (f : X → ℕ) (xs : List X) → All (λ (x : X). f x ≤ 0) xs → sum_by f xs ≡ 0
sum_by-none f xs none = omega (arith, sum_by-le f 0 xs none)

-- a sum of terms that are at most three others, of which each has its factor
pub sum_by-three : {X : Type 0} (f g h w : X → ℕ) (a b c : ℕ) (xs : List X)
    → ((x : X) → w x ≤ f x * a + g x * b + c * h x) → sum_by w xs ≤ sum_by f xs * a + sum_by g xs * b + c * sum_by h xs
sum_by-three f g h w a b c [] each = omega arith
sum_by-three f g h w a b c (x ∷ xs) each =
    let rest = sum_by-three f g h w a b c xs each in
    let first = ap (λ (n : ℕ). n * a) (sum_by-cons f x xs) in
    let second = ap (λ (n : ℕ). n * b) (sum_by-cons g x xs) in
    let third = ap (λ (n : ℕ). c * n) (sum_by-cons h x xs) in
    omega (arith, rest, first, second, third, sum_by-cons w x xs, each x)

one_key_more : (key n amount : ℕ)
    → cond (nat_lt key (suc n)) amount 0 ≡ cond (nat_lt key n) amount 0 + cond (key == n) amount 0
one_key_more key n amount = grind (arith, nat_tests)

-- where each number's elements give at most its share, the elements of the first n numbers give at most the first n
-- shares
sum_by-keys_upto : {X A : Type 0} (m : ℕ) (amount key : X → ℕ) (xs : List X) (share : A → ℕ) (ss : List A) (d : A)
    → ((i : ℕ) → i < length ss → m * sum_by (λ (x : X). cond (key x == i) (amount x) 0) xs ≤ share (get_or ss i d))
    → (n : ℕ) → n ≤ length ss
    → m * sum_by (λ (x : X). cond (nat_lt (key x) n) (amount x) 0) xs ≤ sum_by share (take n ss)
sum_by-keys_upto {X} m amount key xs share ss d each zero h =
    let none = sum_by-none (λ (x : X). cond (nat_lt (key x) 0) (amount x) 0) xs (λ i e k. grind (arith, nat_tests)) in
    omega (arith, ap (λ (n : ℕ). m * n) none)
sum_by-keys_upto {X} m amount key xs share ss d each (suc n) h =
    let before = sum_by-keys_upto m amount key xs share ss d each n (omega arith) in
    let one = each n (omega arith) in
    let both = sum_by-both (λ (x : X). cond (nat_lt (key x) n) (amount x) 0) (λ (x : X). cond (key x == n) (amount x) 0)
    (λ (x : X). cond (nat_lt (key x) (suc n)) (amount x) 0) xs (λ (x : X). one_key_more (key x) n (amount x)) in
    let shares : sum_by share (take (suc n) ss) ≡ sum_by share (take n ss) + share (get_or ss n d) =
    rw (← add-one n) (sum_by_more share ss n d (omega arith)) in
    omega (arith, before, one, shares, ap (λ (k : ℕ). m * k) both)

-- where each element has one of the numbers, all give at most all shares
pub sum_by-keys : {X A : Type 0} (m : ℕ) (amount key : X → ℕ) (xs : List X) (share : A → ℕ) (ss : List A) (d : A)
    → All (λ (x : X). key x < length ss) xs
    → ((i : ℕ) → i < length ss → m * sum_by (λ (x : X). cond (key x == i) (amount x) 0) xs ≤ share (get_or ss i d))
    → m * sum_by amount xs ≤ sum_by share ss
sum_by-keys {X} m amount key xs share ss d known each =
    let upto = sum_by-keys_upto m amount key xs share ss d each (length ss) (omega arith) in
    let all = sum_by-le-all amount (λ (x : X). cond (nat_lt (key x) (length ss)) (amount x) 0) xs
    (λ i e h. (let k = known i e h in omega (
      arith,
      cond-true (nat_lt (key (get_or xs i e)) (length ss))
          (amount (get_or xs i e)) 0 (lt-ltb (key (get_or xs i e)) (length ss) k),
    ))) in
    omega (arith, upto, mul-le-mul_left m all, sum_by-take-le share ss (length ss))
