use Rattle.std.proofs.Common.{◌+◌, ◌*◌, ◌<◌, ◌≤◌, ℕ, List, get_or, All, inl, inr}
use Rattle.std.specs.Prelude.{IsPermutation, ◌≡◌, ◌≢◌}
use Rattle.std.proofs.lemmas.List.Sorted.{All-permutation, IsPermutation-sym}
use Rattle.ats_facts.proofs.Pairs.{AllPairs-permutation}
use Rattle.ats_port_rule.specs.Transmission.{Transmission}
use Rattle.ats_port_rule.specs.PortRule.{IsAhead, AreApart, StartsAfterGap, TieAgrees, KeepsPortRule, KeepsTie}

-- a relation of any two elements survives a permutation
pub all_of_all-permutation : {X : Type 0} (R : X → X → Type 0) (xs ys : List X) → IsPermutation xs ys
    → All (λ (x : X). All (λ (y : X). R x y) xs) xs → All (λ (x : X). All (λ (y : X). R x y) ys) ys
all_of_all-permutation {X} R xs ys p all =
    All-permutation (λ (x : X). All (λ (y : X). R x y) ys) xs ys p
    (λ i d h. All-permutation (λ (y : X). R (get_or xs i d) y) xs ys p (all i d h))

apart-flip : (x y : Transmission) → AreApart x y → AreApart y x
apart-flip x y (inl h) = inr h
apart-flip x y (inr h) = inl h

gap-permutation : (xs ys : List Transmission) (x : Transmission) → IsPermutation xs ys → StartsAfterGap ys x
    → StartsAfterGap xs x
gap-permutation xs ys x p gap =
    All-permutation (λ (z : Transmission). z.end ≢ x.start) ys xs (IsPermutation-sym xs ys p) gap

pub rule-permutation : (ps : ℕ) (xs ys : List Transmission) → IsPermutation xs ys → KeepsPortRule ps xs
    → KeepsPortRule ps ys
rule-permutation ps xs ys p r =
    let Chosen : Transmission → Transmission → Type 0 =
    λ (x y : Transmission). x.start < y.start → y.eligible ≤ x.start → IsAhead x y in
    let Prompt : List Transmission → Transmission → Transmission → Type 0 =
    λ (zs : List Transmission) (x y : Transmission). StartsAfterGap zs x → x.start ≤ y.start → x.start ≤ y.eligible in
    record {
      waits = All-permutation (λ (x : Transmission). x.eligible ≤ x.start) xs ys p r.waits;
      takes = All-permutation (λ (x : Transmission). x.end ≡ x.start + ps * x.bits) xs ys p r.takes;
      apart = AllPairs-permutation AreApart apart-flip xs ys p r.apart;
      chosen = all_of_all-permutation Chosen xs ys p r.chosen;
      prompt = all_of_all-permutation (Prompt ys) xs ys p
          (λ i d hi j e hj gap. r.prompt i d hi j e hj (gap-permutation xs ys (get_or xs i d) p gap));
    }

pub tie-permutation : (key : ℕ → ℕ → ℕ) (xs ys : List Transmission) → IsPermutation xs ys → KeepsTie key xs
    → KeepsTie key ys
tie-permutation key xs ys p t = all_of_all-permutation (TieAgrees key) xs ys p t
