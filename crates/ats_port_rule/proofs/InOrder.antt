use Rattle.std.proofs.Common.{◌≡◌, ℕ, ◌<◌, ◌≤◌, List, length, get_or, subst, ap, inl, inr, arith}
use Rattle.std.specs.Prelude.{AllPairs}
use Rattle.std.proofs.lemmas.Bool.{cases_order}
use Rattle.ats_port_rule.specs.Transmission.{Transmission}
use Rattle.ats_port_rule.specs.PortRule.{IsAhead, AreApart, StartsAfterGap, TieAgrees, KeepsPortRule, KeepsTie}
use Rattle.ats_port_rule.specs.Order.{Precedes, Follows, IsTimely, IsInOrder}
use Rattle.ats_port_rule.proofs.Pairs.{all_of_all}

-- a transmission does not start later than one that follows it
not_before : (key : ℕ → ℕ → ℕ) (ps : ℕ) (sent : List Transmission) (x y : Transmission) → IsTimely ps sent x
    → Follows key sent x y → x.start ≤ y.start
not_before key ps sent x y t f = omega (arith, t.takes, f.ended)

-- of two frames the one that started first precedes the other, where both were eligible
precedes_at : (key : ℕ → ℕ → ℕ) (ps : ℕ) (sent : List Transmission) → IsInOrder key ps sent
    → (i j : ℕ) (d : Transmission) → i < length sent → j < length sent
    → (get_or sent i d).start < (get_or sent j d).start → (get_or sent j d).eligible ≤ (get_or sent i d).start
    → Precedes key (get_or sent i d) (get_or sent j d)
precedes_at key ps sent o i j d hi hj later eligible =
    elim (cases_order i j) as (λ _. Precedes key (get_or sent i d) (get_or sent j d)) [
      | inl e ↦ absurd
          (let s : (get_or sent i d).start ≡ (get_or sent j d).start = ap (λ (k : ℕ). (get_or sent k d).start) e in
          omega arith)
      | inr r ↦ elim r as (λ _. Precedes key (get_or sent i d) (get_or sent j d)) [
        | inl before ↦ (o.pairs i j d before hj).may_follow.behind eligible
        | inr after ↦ absurd
            (let f = o.pairs j i d after hi in
            let n = not_before key ps sent (get_or sent j d) (get_or sent i d) (o.each j d hj) f in
            omega arith)
      ]
    ]

ahead_from : (key : ℕ → ℕ → ℕ) (x y : Transmission) → Precedes key x y → IsAhead x y
ahead_from key x y p = record { class = p.class; no_later = p.eligible }

-- where one started after a gap, the other was not eligible before
waited_at : (key : ℕ → ℕ → ℕ) (ps : ℕ) (sent : List Transmission) → IsInOrder key ps sent → (i j : ℕ) (d : Transmission)
    → i < length sent → j < length sent → StartsAfterGap sent (get_or sent i d)
    → (get_or sent i d).start ≤ (get_or sent j d).start → (get_or sent i d).start ≤ (get_or sent j d).eligible
waited_at key ps sent o i j d hi hj gap later =
    elim (cases_order i j) as (λ _. (get_or sent i d).start ≤ (get_or sent j d).eligible) [
      | inl e ↦ (let P : ℕ → Type 0 = λ (k : ℕ). (get_or sent i d).start ≤ (get_or sent k d).eligible in
          subst P e ((o.each i d hi).prompt gap))
      | inr r ↦ elim r as (λ _. (get_or sent i d).start ≤ (get_or sent j d).eligible) [
        | inl before ↦ (o.pairs i j d before hj).may_follow.waited gap
        | inr after ↦ absurd (gap j d hj (
            let t = (o.each j d hj).takes in
            let f = (o.pairs j i d after hi).ended in
            omega arith))
      ]
    ]

apart_at : (key : ℕ → ℕ → ℕ) (ps : ℕ) (sent : List Transmission) → IsInOrder key ps sent → AllPairs AreApart sent
apart_at key ps sent o i j d before hj = inl (o.pairs i j d before hj).ended

pub rule_from_order : (key : ℕ → ℕ → ℕ) (ps : ℕ) (sent : List Transmission) → IsInOrder key ps sent
    → KeepsPortRule ps sent
rule_from_order key ps sent o =
    record {
      waits = λ i d h. (o.each i d h).waits;
      takes = λ i d h. (o.each i d h).takes;
      apart = apart_at key ps sent o;
      chosen = all_of_all (λ (x y : Transmission). x.start < y.start → y.eligible ≤ x.start → IsAhead x y) sent
          (λ i j d hi hj later eligible. ahead_from key _ _ (precedes_at key ps sent o i j d hi hj later eligible));
      prompt = all_of_all
          (λ (x y : Transmission). StartsAfterGap sent x → x.start ≤ y.start → x.start ≤ y.eligible) sent
          (waited_at key ps sent o);
    }

-- of two frames that are eligible together, the one that started first has the lesser key
tie_at : (key : ℕ → ℕ → ℕ) (ps : ℕ) (sent : List Transmission) → IsInOrder key ps sent → (i j : ℕ) (d : Transmission)
    → i < length sent → j < length sent → TieAgrees key (get_or sent i d) (get_or sent j d)
tie_at key ps sent o i j d hi hj class eligible later =
    let w = (o.each i d hi).waits in
    (precedes_at key ps sent o i j d hi hj later (omega arith)).tie class eligible

pub tie_from_order : (key : ℕ → ℕ → ℕ) (ps : ℕ) (sent : List Transmission) → IsInOrder key ps sent → KeepsTie key sent
tie_from_order key ps sent o = all_of_all (TieAgrees key) sent (tie_at key ps sent o)
