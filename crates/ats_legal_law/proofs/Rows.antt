use Rattle.std.proofs.Common.{◌≡◌, ℕ, zero, suc, ◌+◌, ◌*◌, ◌<◌, ◌≤◌, List, [], ◌∷◌, length, get_or, All, refl, sym, ap}
use Rattle.std.proofs.Common.{◌∙◌, subst, inl, arith}
use Rattle.std.specs.Prelude.{AllPairs, ◌≢◌}
use Rattle.std.proofs.lemmas.List.Elements.{All-nil, All-cons}
use Rattle.std.proofs.lemmas.List.Kept.{AllPairs-cons}
use Rattle.ats_port_rule.specs.Transmission.{Transmission}
use Rattle.ats_port_rule.specs.PortRule.{IsAhead, AreApart, StartsAfterGap, KeepsPortRule}

-- Lists of what belongs to one number after another.

abbrev pub row : {X : Type 0} → (ℕ → X) → ℕ → ℕ → List X
row f k zero = []
row f k (suc n) = f k ∷ row f (k + 1) n

pub length-row : {X : Type 0} (f : ℕ → X) (k n : ℕ) → length (row f k n) ≡ n
length-row f k zero = refl
length-row f k (suc n) = let rest = length-row f (k + 1) n in omega (arith, rest)

get_or-row : {X : Type 0} (f : ℕ → X) (k n i : ℕ) (d : X) → i < n → get_or (row f k n) i d ≡ f (k + i)
get_or-row f k zero i d within = absurd (omega arith)
get_or-row f k (suc n) zero d within = ap f (omega arith)
get_or-row f k (suc n) (suc i) d within =
    get_or-row f (k + 1) n i d (omega arith) ∙ ap f (omega arith)

-- what holds of what belongs to each of the numbers
pub all_row : {X : Type 0} (P : X → Type 0) (f : ℕ → X) (k n : ℕ) → ((i : ℕ) → k ≤ i → i < k + n → P (f i))
    → All P (row f k n)
all_row P f k zero each = All-nil P
all_row P f k (suc n) each =
    All-cons P (f k) (row f (k + 1) n) (each k (omega arith) (omega arith))
    (all_row P f (k + 1) n (λ i from to. each i (omega arith) (omega arith)))

-- and to any two of them in order
pub pairs_row : {X : Type 0} (R : X → X → Type 0) (f : ℕ → X) (k n : ℕ) → ((i j : ℕ) → i < j → R (f i) (f j))
    → AllPairs R (row f k n)
pairs_row R f k zero each = λ i j d before within. absurd (omega arith)
pairs_row R f k (suc n) each =
    AllPairs-cons R (f k) (row f (k + 1) n) (all_row (R (f k)) f (k + 1) n (λ i from to. each k i (omega arith)))
    (pairs_row R f (k + 1) n each)

-- transmissions of a port, one after another
pub record IsRow (ps : ℕ) (f : ℕ → Transmission) : Type 0 where
  pub waits : (i : ℕ) → (f i).eligible ≤ (f i).start
  pub takes : (i : ℕ) → (f i).end ≡ (f i).start + ps * (f i).bits
  pub apart : (i j : ℕ) → i < j → (f i).end ≤ (f j).start
  pub chosen : (i j : ℕ) → (f i).start < (f j).start → (f j).eligible ≤ (f i).start → IsAhead (f i) (f j)
  pub first : (j : ℕ) → (f 0).start ≤ (f j).start → (f 0).start ≤ (f j).eligible
  pub prompt : (i j : ℕ) → (f i).end ≢ (f (i + 1)).start → (f (i + 1)).start ≤ (f j).start
      → (f (i + 1)).start ≤ (f j).eligible

pub rule_of_row : (ps : ℕ) (f : ℕ → Transmission) (n : ℕ) → IsRow ps f → KeepsPortRule ps (row f 0 n)
rule_of_row ps f n is = record {
  waits = all_row (λ (x : Transmission). x.eligible ≤ x.start) f 0 n (λ i from to. is.waits i);
  takes = all_row (λ (x : Transmission). x.end ≡ x.start + ps * x.bits) f 0 n (λ i from to. is.takes i);
  apart = pairs_row AreApart f 0 n (λ i j before. inl (is.apart i j before));
  chosen = all_row (λ (x : Transmission). All (λ (y : Transmission).
      x.start < y.start → y.eligible ≤ x.start → IsAhead x y) (row f 0 n)) f 0 n
      (λ i from to. all_row (λ (y : Transmission). (f i).start < y.start → y.eligible ≤ (f i).start
      → IsAhead (f i) y) f 0 n (λ j after below. is.chosen i j));
  prompt = all_row (λ (x : Transmission). All (λ (y : Transmission).
      StartsAfterGap (row f 0 n) x → x.start ≤ y.start → x.start ≤ y.eligible) (row f 0 n)) f 0 n
      (λ i from to. all_row (λ (y : Transmission). StartsAfterGap (row f 0 n) (f i) → (f i).start ≤ y.start
      → (f i).start ≤ y.eligible) f 0 n (λ j after below gap. by i j (omega arith) gap));
}
  where
    by : (i j : ℕ) → i < n → StartsAfterGap (row f 0 n) (f i) → (f i).start ≤ (f j).start
        → (f i).start ≤ (f j).eligible
    by zero j within gap before = is.first j before
    by (suc i) j within gap before =
        let next : suc i ≡ i + 1 = omega arith in
        let there : get_or (row f 0 n) i (f i) ≡ f i =
        get_or-row f 0 n i (f i) (omega arith) ∙ ap f (omega arith) in
        let differs : (f i).end ≢ (f (i + 1)).start = λ same. gap i (f i) (omega (arith, length-row f 0 n))
        (ap (λ (x : Transmission). x.end) there ∙ same ∙ ap (λ (k : ℕ). (f k).start) (sym next)) in
        subst (λ (k : ℕ). (f k).start ≤ (f j).eligible) (sym next)
        (is.prompt i j differs (subst (λ (k : ℕ). (f k).start ≤ (f j).start) next before))
