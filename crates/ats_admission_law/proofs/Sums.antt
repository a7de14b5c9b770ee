-- What the senders at a port make of a class, with one of them more and less.
use Rattle.std.proofs.Common.{◌≡◌, ℕ, ◌+◌, ◌≤◌, Bool, true, false, cond, List, [], ◌∷◌, ◌++◌, map, filter, sum_by, refl}
use Rattle.std.proofs.Common.{ap, ◌∙◌, arith}
use Rattle.std.specs.Prelude.{fold, min, max, ◌||◌}
use Rattle.std.specs.List.{All, list_any}
use Rattle.std.proofs.lemmas.List.Elements.{All-head, All-tail, filter-append}
use Rattle.std.proofs.lemmas.List.Sums.{sum_by-cons, sum_by-append}
use Rattle.ats_network.specs.Class.{PortSender}
use Rattle.ats_certificate.specs.PortSums.{sum_where, greatest_where, least_of, least_where}

module _ (test : PortSender → Bool) (amount : PortSender → ℕ) where
  -- a sum over one sender more, and over those of two lists
  pub sum_more : (s : PortSender) (ss : List PortSender)
      → sum_where test amount (s ∷ ss) ≡ cond (test s) (amount s) 0 + sum_where test amount ss
  sum_more s ss = by (test s)
    where
      by : (b : Bool) → sum_by amount (cond b (s ∷ filter test ss) (filter test ss))
          ≡ cond b (amount s) 0 + sum_by amount (filter test ss)
      by true = sum_by-cons amount s (filter test ss)
      by false = omega arith

  sum_both : (xs ys : List PortSender)
      → sum_where test amount (xs ++ ys) ≡ sum_where test amount xs + sum_where test amount ys
  sum_both xs ys = ap (sum_by amount) (filter-append test xs ys)
      ∙ sum_by-append amount (filter test xs) (filter test ys)

  pub sum_less : (xs : List PortSender) (s : PortSender) (ys : List PortSender)
      → sum_where test amount (xs ++ s ∷ ys) ≡ sum_where test amount (xs ++ ys) + cond (test s) (amount s) 0
  sum_less xs s ys = omega (arith, sum_both xs (s ∷ ys), sum_both xs ys, sum_more s ys)

  -- the greatest of a start and numbers, where the start is greater
  greatest_from : (a b : ℕ) (ns : List ℕ) → a ≤ b → fold max a ns ≤ fold max b ns
  greatest_from a b [] h = h
  greatest_from a b (n ∷ ns) h = greatest_from (max a n) (max b n) ns (omega arith)

  greatest_past : (start : ℕ) (xs : List PortSender) (s : PortSender) (ys : List PortSender)
      → fold max start (map amount (filter test (xs ++ ys))) ≤ fold max start (map amount (filter test (xs ++ s ∷ ys)))
  greatest_past start [] s ys = by (test s)
    where
      by : (b : Bool) → fold max start (map amount (filter test ys))
          ≤ fold max start (map amount (cond b (s ∷ filter test ys) (filter test ys)))
      by true = greatest_from start (max start (amount s)) (map amount (filter test ys)) (omega arith)
      by false = omega arith
  greatest_past start (x ∷ xs) s ys =
      by (test x) (greatest_past (max start (amount x)) xs s ys) (greatest_past start xs s ys)
    where
      by : (b : Bool) → fold max (max start (amount x)) (map amount (filter test (xs ++ ys)))
          ≤ fold max (max start (amount x)) (map amount (filter test (xs ++ s ∷ ys)))
          → fold max start (map amount (filter test (xs ++ ys)))
          ≤ fold max start (map amount (filter test (xs ++ s ∷ ys)))
          → fold max start (map amount (cond b (x ∷ filter test (xs ++ ys)) (filter test (xs ++ ys))))
          ≤ fold max start (map amount (cond b (x ∷ filter test (xs ++ s ∷ ys)) (filter test (xs ++ s ∷ ys))))
      by true here past = here
      by false here past = past

  pub greatest_less : (xs : List PortSender) (s : PortSender) (ys : List PortSender)
      → greatest_where test amount (xs ++ ys) ≤ greatest_where test amount (xs ++ s ∷ ys)
  greatest_less xs s ys = greatest_past 0 xs s ys

  -- the least of a start and numbers, where the start is greater
  least_from : (a b : ℕ) (ns : List ℕ) → a ≤ b → fold min a ns ≤ fold min b ns
  least_from a b [] h = h
  least_from a b (n ∷ ns) h = least_from (min a n) (min b n) ns (omega arith)

  least_past : (start : ℕ) (xs : List PortSender) (s : PortSender) (ys : List PortSender)
      → fold min start (map amount (filter test (xs ++ s ∷ ys))) ≤ fold min start (map amount (filter test (xs ++ ys)))
  least_past start [] s ys = by (test s)
    where
      by : (b : Bool) → fold min start (map amount (cond b (s ∷ filter test ys) (filter test ys)))
          ≤ fold min start (map amount (filter test ys))
      by true = least_from (min start (amount s)) start (map amount (filter test ys)) (omega arith)
      by false = omega arith
  least_past start (x ∷ xs) s ys =
      by (test x) (least_past (min start (amount x)) xs s ys) (least_past start xs s ys)
    where
      by : (b : Bool) → fold min (min start (amount x)) (map amount (filter test (xs ++ s ∷ ys)))
          ≤ fold min (min start (amount x)) (map amount (filter test (xs ++ ys)))
          → fold min start (map amount (filter test (xs ++ s ∷ ys)))
          ≤ fold min start (map amount (filter test (xs ++ ys)))
          → fold min start (map amount (cond b (x ∷ filter test (xs ++ s ∷ ys)) (filter test (xs ++ s ∷ ys))))
          ≤ fold min start (map amount (cond b (x ∷ filter test (xs ++ ys)) (filter test (xs ++ ys))))
      by true here past = here
      by false here past = past

  -- one more number is not greater than the least, where there is one
  least_one : (n : ℕ) (ss : List PortSender) → list_any test ss ≡ true
      → fold min n (map amount (filter test ss)) ≤ least_where test amount ss
  least_one n [] any = absurd (let no : false ≡ true = any in cc)
  least_one n (x ∷ ss) any = by (test x) any (least_one n ss)
    where
      by : (b : Bool) → (b || list_any test ss) ≡ true
          → (list_any test ss ≡ true → fold min n (map amount (filter test ss)) ≤ least_where test amount ss)
          → fold min n (map amount (cond b (x ∷ filter test ss) (filter test ss)))
          ≤ least_of (map amount (cond b (x ∷ filter test ss) (filter test ss)))
      by true any later = least_from (min n (amount x)) (amount x) (map amount (filter test ss)) (omega arith)
      by false any later = later any

  pub least_less : (xs : List PortSender) (s : PortSender) (ys : List PortSender) → list_any test (xs ++ ys) ≡ true
      → least_where test amount (xs ++ s ∷ ys) ≤ least_where test amount (xs ++ ys)
  least_less [] s ys any = by (test s)
    where
      by : (b : Bool) → least_of (map amount (cond b (s ∷ filter test ys) (filter test ys)))
          ≤ least_of (map amount (filter test ys))
      by true = least_one (amount s) ys any
      by false = omega arith
  least_less (x ∷ xs) s ys any = by (test x) any (least_past (amount x) xs s ys) (least_less xs s ys)
    where
      by : (b : Bool) → (b || list_any test (xs ++ ys)) ≡ true
          → fold min (amount x) (map amount (filter test (xs ++ s ∷ ys)))
          ≤ fold min (amount x) (map amount (filter test (xs ++ ys)))
          → (list_any test (xs ++ ys) ≡ true
          → least_where test amount (xs ++ s ∷ ys) ≤ least_where test amount (xs ++ ys))
          → least_of (map amount (cond b (x ∷ filter test (xs ++ s ∷ ys)) (filter test (xs ++ s ∷ ys))))
          ≤ least_of (map amount (cond b (x ∷ filter test (xs ++ ys)) (filter test (xs ++ ys))))
      by true any here past = here
      by false any here past = past any

  -- the least of a start and numbers is at most the start
  least_first : (a : ℕ) (ns : List ℕ) → fold min a ns ≤ a
  least_first a [] = omega arith
  least_first a (n ∷ ns) = let rest = least_first (min a n) ns in omega (arith, rest)

  -- the least of some amounts is at most a sum of others over as many or more senders, each of which is no less
  pub least_in_sum : (wider : PortSender → Bool) (other : PortSender → ℕ) (ss : List PortSender)
      → All (λ (s : PortSender). test s ≡ true → (wider s ≡ true) × (amount s ≤ other s)) ss
      → least_where test amount ss ≤ sum_by other (filter wider ss)
  least_in_sum wider other [] all = omega arith
  least_in_sum wider other (x ∷ ss) all =
      by (test x) (wider x) (All-head Each x ss all) (least_in_sum wider other ss (All-tail Each x ss all))
    where
      Each : PortSender → Type 0
      Each s = test s ≡ true → (wider s ≡ true) × (amount s ≤ other s)

      by : (b c : Bool) → (b ≡ true → (c ≡ true) × (amount x ≤ other x))
          → least_where test amount ss ≤ sum_by other (filter wider ss)
          → least_of (map amount (cond b (x ∷ filter test ss) (filter test ss)))
          ≤ sum_by other (cond c (x ∷ filter wider ss) (filter wider ss))
      by true true each rest =
          let first = least_first (amount x) (map amount (filter test ss)) in
          let le = each refl in
          omega (arith, first, le.1, sum_by-cons other x (filter wider ss))
      by true false each rest = absurd (let no : false ≡ true = (each refl).0 in cc)
      by false true each rest = omega (arith, rest, sum_by-cons other x (filter wider ss))
      by false false each rest = rest
