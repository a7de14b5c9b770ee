-- What senders make of a class with one more among them.
use Rattle.std.proofs.Common.{◌≡◌, ℕ, ◌+◌, min, max, Bool, true, false, cond, List, [], ◌∷◌, ◌++◌, map, filter}
use Rattle.std.proofs.Common.{sum_by, Option, Some, refl, sym, ap, ◌∙◌, arith}
use Rattle.std.specs.Prelude.{fold}
use Rattle.std.proofs.lemmas.List.{map-append}
use Rattle.std.proofs.lemmas.List.Elements.{filter-append}
use Rattle.std.proofs.lemmas.List.Sums.{sum_by-append, sum_by-cons}
use Rattle.ats_network.specs.Class.{PortSender}
use Rattle.ats_certificate.specs.PortSums.{is_of, longest, shortest}
use Rattle.ats_tally.specs.Tally.{least_with, least_known}
use Rattle.ats_tally.specs.Shares.{share_of, share_with}
use Rattle.ats_tally.specs.declared.share.Share.{Share}

-- a greatest and a least with one number more among the others
pub greatest_in : (a x : ℕ) (ms ns : List ℕ) → fold max a (ms ++ x ∷ ns) ≡ max (fold max a (ms ++ ns)) x
greatest_in a x [] [] = refl
greatest_in a x [] (n ∷ ns) =
    let same : max (max a x) n ≡ max (max a n) x = omega arith in
    ap (λ (k : ℕ). fold max k ns) same ∙ greatest_in (max a n) x [] ns
greatest_in a x (m ∷ ms) ns = greatest_in (max a m) x ms ns

least_in : (a x : ℕ) (ms ns : List ℕ) → fold min a (ms ++ x ∷ ns) ≡ min (fold min a (ms ++ ns)) x
least_in a x [] [] = refl
least_in a x [] (n ∷ ns) =
    let same : min (min a x) n ≡ min (min a n) x = omega arith in
    ap (λ (k : ℕ). fold min k ns) same ∙ least_in (min a n) x [] ns
least_in a x (m ∷ ms) ns = least_in (min a m) x ms ns

pub known_in : (x : ℕ) (ms ns : List ℕ) → least_known (ms ++ x ∷ ns) ≡ Some (least_with (least_known (ms ++ ns)) x)
known_in x [] [] = refl
known_in x [] (n ∷ ns) =
    let same : min x n ≡ min n x = omega arith in
    ap (λ (k : ℕ). Some (fold min k ns)) same ∙ ap Some (least_in n x [] ns)
known_in x (m ∷ ms) ns = ap Some (least_in m x ms ns)

-- what senders make together
abbrev pub made : List PortSender → Share
made senders = record {
  rate = sum_by (λ (s : PortSender). s.rate) senders;
  bursts = sum_by (λ (s : PortSender). s.burst_bits) senders;
  longest = fold max 0 (map longest senders);
  shortest = least_known (map shortest senders);
}

-- shares with the same parts are the same
same_parts : (a b : Share) → a.rate ≡ b.rate → a.bursts ≡ b.bursts → a.longest ≡ b.longest → a.shortest ≡ b.shortest
    → a ≡ b
same_parts a b rate bursts longest shortest =
    ap (λ (n : ℕ). share n a.bursts a.longest a.shortest) rate
    ∙ ap (λ (n : ℕ). share b.rate n a.longest a.shortest) bursts
    ∙ ap (λ (n : ℕ). share b.rate b.bursts n a.shortest) longest
    ∙ ap (λ (o : Option ℕ). share b.rate b.bursts b.longest o) shortest
  where
    share : ℕ → ℕ → ℕ → Option ℕ → Share
    share rate bursts longest shortest =
        record { rate = rate; bursts = bursts; longest = longest; shortest = shortest }

sum_in : (amount : PortSender → ℕ) (xs : List PortSender) (s : PortSender) (ys : List PortSender)
    → sum_by amount (xs ++ s ∷ ys) ≡ sum_by amount (xs ++ ys) + amount s
sum_in amount xs s ys = omega (
  arith,
  sum_by-append amount xs (s ∷ ys),
  sum_by-append amount xs ys,
  sum_by-cons amount s ys,
)

made_in : (xs : List PortSender) (s : PortSender) (ys : List PortSender)
    → made (xs ++ s ∷ ys) ≡ share_with s (made (xs ++ ys))
made_in xs s ys = same_parts (made (xs ++ s ∷ ys)) (share_with s (made (xs ++ ys)))
    (sum_in (λ (t : PortSender). t.rate) xs s ys)
    (sum_in (λ (t : PortSender). t.burst_bits) xs s ys)
    (ap (fold max 0) (map-append longest xs (s ∷ ys)) ∙ greatest_in 0 (longest s) (map longest xs) (map longest ys)
    ∙ sym (ap (λ (l : List ℕ). max (fold max 0 l) (longest s)) (map-append longest xs ys)))
    (ap least_known (map-append shortest xs (s ∷ ys)) ∙ known_in (shortest s) (map shortest xs) (map shortest ys)
    ∙ sym (ap (λ (l : List ℕ). Some (least_with (least_known l) (shortest s))) (map-append shortest xs ys)))

-- the share of a class with one sender more, of the class or not
pub share_in : (class : ℕ) (xs : List PortSender) (s : PortSender) (ys : List PortSender) (b : Bool)
    → is_of class s ≡ b
    → share_of class (xs ++ s ∷ ys) ≡ cond b (share_with s (share_of class (xs ++ ys))) (share_of class (xs ++ ys))
share_in class xs s ys b is =
    ap made (filter-append (is_of class) xs (s ∷ ys)
    ∙ ap (λ (t : Bool). filter (is_of class) xs ++ cond t (s ∷ rest) rest) is)
    ∙ by b
  where
    rest : List PortSender
    rest = filter (is_of class) ys

    by : (b : Bool) → made (filter (is_of class) xs ++ cond b (s ∷ rest) rest)
        ≡ cond b (share_with s (share_of class (xs ++ ys))) (share_of class (xs ++ ys))
    by true = made_in (filter (is_of class) xs) s rest
        ∙ sym (ap (λ (l : List PortSender). share_with s (made l)) (filter-append (is_of class) xs ys))
    by false = sym (ap made (filter-append (is_of class) xs ys))
